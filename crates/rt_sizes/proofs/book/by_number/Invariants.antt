use Rattle.std.proofs.Common.{◌≡◌, ℕ, nat_eq, drop}
use Rattle.std.specs.Option.{option_or}
use Rattle.indexmap.specs.IndexMap.{get}
use Rattle.rt_sizes.specs.Wishes.{given}
use Rattle.rt_sizes.proofs.book.by_number.Given as goal

abbrev pub invariant-loop-number : goal.invariant-loop-number
invariant-loop-number l =
    (q : ℕ) → option_or (get nat_eq l.found q) (given q (drop l.number-index l.entries)) ≡ given q l.entries
