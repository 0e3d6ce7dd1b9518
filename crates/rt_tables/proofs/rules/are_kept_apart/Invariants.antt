use Rattle.std.proofs.Common.{◌≡◌, drop}
use Rattle.rt_tables.specs.Rules.{are_kept_apart}
use Rattle.rt_tables.proofs.rules.are_kept_apart.Given as goal

abbrev pub invariant-loop-i : goal.invariant-loop-i
invariant-loop-i l = are_kept_apart l.masks l.aparts 0 l.masks ≡ are_kept_apart l.masks l.aparts l.i (drop l.i l.masks)
