use Rattle.rt_tableau.proofs.Combined.{AreCombinedSoFar}
use Rattle.rt_tableau.proofs.line.combined.Given as goal

abbrev pub invariant-loop-s : goal.invariant-loop-s
invariant-loop-s l = AreCombinedSoFar l.line l.pivot l.q l.values.items l.s
