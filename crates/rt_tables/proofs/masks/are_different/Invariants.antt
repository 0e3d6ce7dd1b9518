use Rattle.std.proofs.Common.{◌≡◌, drop}
use Rattle.rt_tables.specs.Masks.{are_different}
use Rattle.rt_tables.proofs.masks.are_different.Given as goal

abbrev pub invariant-loop-i : goal.invariant-loop-i
invariant-loop-i l = are_different l.numbers ≡ are_different (drop l.i l.numbers)
