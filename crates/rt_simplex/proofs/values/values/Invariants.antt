use Rattle.rt_simplex.specs.Shares.{AreFilled}
use Rattle.rt_simplex.proofs.values.values.Given as goal

abbrev pub invariant-loop-i : goal.invariant-loop-i
invariant-loop-i l = AreFilled l.table l.i l.at.items
