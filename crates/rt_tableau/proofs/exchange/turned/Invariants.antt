use Rattle.rt_tableau.proofs.Signs.{AreTurnedSoFar}
use Rattle.rt_tableau.proofs.exchange.turned.Given as goal

abbrev pub invariant-loop-number : goal.invariant-loop-number
invariant-loop-number l = AreTurnedSoFar l.line l.new l.number-index
