use Rattle.rt_branch.proofs.Pointed.{AreWholeSoFar}
use Rattle.rt_branch.proofs.point.point_of.Given as goal

abbrev pub invariant-loop-j : goal.invariant-loop-j
invariant-loop-j l = AreWholeSoFar l.table l.j l.at
