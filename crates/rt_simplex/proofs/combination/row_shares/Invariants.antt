use Rattle.rt_simplex.specs.Shares.{AreTakenByRow}
use Rattle.rt_simplex.proofs.combination.row_shares.Given as goal

abbrev pub invariant-loop-d : goal.invariant-loop-d
invariant-loop-d l = AreTakenByRow l.table l.p l.d l.shares
