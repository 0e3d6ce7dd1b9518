use Rattle.rt_htemplate.proofs.Kept.{AreThoseSoFar}
use Rattle.rt_htemplate.proofs.names.those_there.Given as goal

abbrev pub invariant-loop-name : goal.invariant-loop-name
invariant-loop-name l = AreThoseSoFar l.job l.offered l.name-index l.names
