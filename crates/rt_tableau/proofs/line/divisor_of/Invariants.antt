use Rattle.rt_tableau.proofs.Divisors.{IsCommonSoFar}
use Rattle.rt_tableau.proofs.line.divisor_of.Given as goal

abbrev pub invariant-loop-value : goal.invariant-loop-value
invariant-loop-value l = IsCommonSoFar l.fn.values l.fn.place l.value-index l.common
