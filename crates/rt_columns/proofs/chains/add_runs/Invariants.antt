use Rattle.std.proofs.Common.{map}
use Rattle.rt_strips.specs.Placed.{placed}
use Rattle.rt_columns.specs.Adding.{Adds}
use Rattle.rt_columns.specs.Bars.{IsRunBelow, ArePassed}
use Rattle.rt_columns.proofs.chains.add_runs.Given as goal

abbrev pub invariant-loop-lowest : goal.invariant-loop-lowest
invariant-loop-lowest l = record {
  passed : ArePassed l.over l.from l.lowest;
  adds : Adds (IsRunBelow (map placed l.strips.list) l.over l.lowest) l.initial.names l.names;
}
