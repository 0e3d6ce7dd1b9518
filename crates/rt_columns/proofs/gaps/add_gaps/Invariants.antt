use Rattle.std.proofs.Common.{map}
use Rattle.rt_strips.specs.Placed.{placed}
use Rattle.rt_columns.specs.Adding.{Adds}
use Rattle.rt_columns.specs.Bars.{IsGapBelow}
use Rattle.rt_columns.proofs.gaps.add_gaps.Given as goal

abbrev pub invariant-loop-lower : goal.invariant-loop-lower
invariant-loop-lower l = Adds (IsGapBelow (map placed l.strips.list) l.over l.lower) l.initial.names l.names
