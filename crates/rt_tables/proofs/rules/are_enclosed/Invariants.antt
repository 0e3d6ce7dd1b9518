use Rattle.std.proofs.Common.{◌≡◌, drop}
use Rattle.rt_tables.specs.Rules.{are_enclosed}
use Rattle.rt_tables.proofs.rules.are_enclosed.Given as goal

abbrev pub invariant-loop-i : goal.invariant-loop-i
invariant-loop-i l = are_enclosed l.encloses 0 l.masks ≡ are_enclosed l.encloses l.i (drop l.i l.masks)
