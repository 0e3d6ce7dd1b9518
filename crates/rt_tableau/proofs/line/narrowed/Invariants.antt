use Rattle.rt_tableau.proofs.Quotients.{AreQuotientsSoFar}
use Rattle.rt_tableau.proofs.line.narrowed.Given as goal

abbrev pub invariant-loop-value : goal.invariant-loop-value
invariant-loop-value l = AreQuotientsSoFar l.fn.common l.fn.values l.line l.value-index
