use Rattle.std.proofs.Common.{length, map, ◌+◌, ◌-◌}
use borrow.Author.Differences.{up, down}
use Rattle.rt_strips.specs.Placed.{placed, covered_by}
use Rattle.rt_cover.specs.Bars.{AreBarsOf}
use Rattle.rt_cover.proofs.Telling.{AreToldBelow}
use Rattle.rt_cover.proofs.missing.look_up.Given as goal

abbrev pub invariant-loop-sweep : goal.invariant-loop-sweep
invariant-loop-sweep l = record {
  bars : AreBarsOf l.m (map placed l.strips) (length (map placed l.strips)) l.areas (length l.areas) l.sweep.bars;
  told : AreToldBelow (covered_by l.m (map placed l.strips)) l.areas l.sweep.height l.found;
}

abbrev pub decreases-loop-sweep : goal.decreases-loop-sweep
decreases-loop-sweep l = (up l.sweep.highest + down l.sweep.height) - (up l.sweep.height + down l.sweep.highest)
