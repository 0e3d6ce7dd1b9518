use Rattle.std.proofs.Common.{◌≡◌, map}
use Rattle.std.specs.Int.{int_gap}
use Rattle.rt_strips.specs.Placed.{placed}
use Rattle.rt_columns.proofs.Kept.{ShowsTo}
use Rattle.rt_columns.proofs.mask.add_slabs.Given as goal

abbrev pub invariant-loop-reached : goal.invariant-loop-reached
invariant-loop-reached l = record {
  bars : l.sweep.bars ≡ l.initial.sweep.bars;
  shown : ShowsTo (map placed l.strips.list) l.initial.sweep.bars l.initial.sweep.height l.sweep.height l.initial.names l.names;
}

abbrev pub decreases-loop-reached : goal.decreases-loop-reached
decreases-loop-reached l = int_gap l.sweep.height l.sweep.highest
