use Rattle.std.proofs.Common.{map, length, ◌-◌}
use Rattle.rt_strips.specs.Placed.{placed}
use Rattle.rt_columns.proofs.Seeing.{AreSeenTo}
use Rattle.rt_columns.proofs.gaps.add_gaps_onward.Given as goal

abbrev pub invariant-loop-upper : goal.invariant-loop-upper
invariant-loop-upper l = AreSeenTo (map placed l.strips.list) l.over l.lower l.first l.upper l.least l.initial.names l.names

abbrev pub decreases-loop-upper : goal.decreases-loop-upper
decreases-loop-upper l = length l.over - l.upper
