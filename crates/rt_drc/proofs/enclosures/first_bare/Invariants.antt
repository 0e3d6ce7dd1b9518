use Rattle.std.proofs.Common.{◌≡◌, ℕ, ◌<◌, None}
use Rattle.rt_cover.specs.Covering.{found_at}
use Rattle.rt_drc.proofs.enclosures.first_bare.Given as goal

abbrev pub invariant-loop-i : goal.invariant-loop-i
invariant-loop-i l = (k : ℕ) → k < l.i → found_at l.missing k ≡ None
