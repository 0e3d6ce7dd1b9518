use Rattle.std.proofs.Common.{◌<◌, length}
use Rattle.rt_groups.specs.Parents.{AreKin, AreAsBefore}
use Rattle.rt_groups.proofs.joining.root.Given as goal

abbrev pub invariant-loop-parents : goal.invariant-loop-parents
invariant-loop-parents l = record {
  there : l.at < length l.parents;
  as_before : AreAsBefore l.initial.parents l.parents;
  kin : AreKin l.parents l.i l.at;
}

abbrev pub decreases-loop-parents : goal.decreases-loop-parents
decreases-loop-parents l = l.at
