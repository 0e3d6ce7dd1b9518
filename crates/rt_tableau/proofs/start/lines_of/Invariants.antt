use Rattle.rt_tableau.proofs.Starting.{AreStartsSoFar}
use Rattle.rt_tableau.proofs.start.lines_of.Given as goal

abbrev pub invariant-loop-d : goal.invariant-loop-d
invariant-loop-d l = AreStartsSoFar l.strips l.first l.rows l.lines.items l.d
