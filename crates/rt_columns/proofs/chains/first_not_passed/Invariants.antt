use Rattle.std.proofs.Common.{◌-◌}
use Rattle.rt_columns.specs.Bars.{ArePassed}
use Rattle.rt_columns.proofs.chains.first_not_passed.Given as goal

abbrev pub invariant-loop-first : goal.invariant-loop-first
invariant-loop-first l = ArePassed l.over l.first l.place

abbrev pub decreases-loop-first : goal.decreases-loop-first
decreases-loop-first l = l.place - l.first
