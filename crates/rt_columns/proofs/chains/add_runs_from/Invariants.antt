use Rattle.std.proofs.Common.{map}
use Rattle.rt_strips.specs.Placed.{placed}
use Rattle.rt_columns.specs.Adding.{Adds}
use Rattle.rt_columns.proofs.Climbing.{IsRunToOne}
use Rattle.rt_columns.proofs.chains.add_runs_from.Given as goal

abbrev pub invariant-loop-highest : goal.invariant-loop-highest
invariant-loop-highest l = Adds (IsRunToOne (map placed l.strips.list) l.over l.lowest l.reached l.highest-index) l.initial.names l.names
