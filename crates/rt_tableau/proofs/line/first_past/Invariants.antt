use Rattle.rt_tableau.proofs.Firsts.{AreSmallSoFar}
use Rattle.rt_tableau.proofs.line.first_past.Given as goal

abbrev pub invariant-loop-s : goal.invariant-loop-s
invariant-loop-s l = AreSmallSoFar l.common l.values l.s
