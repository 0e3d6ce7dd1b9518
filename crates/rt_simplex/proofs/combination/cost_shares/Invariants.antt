use Rattle.rt_simplex.specs.Shares.{AreTakenByCosts}
use Rattle.rt_simplex.proofs.combination.cost_shares.Given as goal

abbrev pub invariant-loop-d : goal.invariant-loop-d
invariant-loop-d l = AreTakenByCosts l.table l.row l.d l.shares
