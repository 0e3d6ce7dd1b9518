use Rattle.std.proofs.Common.{◌≡◌, [], take, drop}
use Rattle.rt_tables.specs.Kinds.{parted_fault}
use Rattle.rt_tables.proofs.kinds.parted.Given as goal

abbrev pub invariant-loop-i : goal.invariant-loop-i
invariant-loop-i l = parted_fault [] l.kinds ≡ parted_fault (take l.i l.kinds) (drop l.i l.kinds)
