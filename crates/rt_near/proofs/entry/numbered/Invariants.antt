use Rattle.std.proofs.Common.{◌≡◌, ℕ, ◌<◌, length}
use Rattle.rt_near.specs.Near.{sides_at}
use Rattle.rt_near.specs.Entries.{entry_of, entry_at}
use Rattle.rt_near.proofs.entry.numbered.Given as goal

abbrev pub invariant-loop-i : goal.invariant-loop-i
invariant-loop-i l =
    (length l.entries.items ≡ l.i) × ((k : ℕ) → k < l.i → entry_at l.entries.items k ≡ entry_of (sides_at l.sides l.reaches k) l.reaches k)
