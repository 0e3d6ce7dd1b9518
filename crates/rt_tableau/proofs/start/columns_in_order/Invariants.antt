use Rattle.std.proofs.Common.{◌≡◌}
use Rattle.rt_tableau.specs.Starts.{columns_from}
use Rattle.rt_tableau.proofs.start.columns_in_order.Given as goal

abbrev pub invariant-loop-d : goal.invariant-loop-d
invariant-loop-d l = l.columns.items ≡ columns_from l.first l.d
