use Rattle.std.proofs.Common.{map, ◌≤ℤ◌}
use Rattle.std.proofs.lemmas.List.Sorted.{All-permutation}
use Rattle.rt_sweep.specs.declared.bar.Bar.{Bar}
use Rattle.rt_strips.specs.Placed.{placed}
use Rattle.rt_columns.specs.Sides.{side_of}
use Rattle.rt_columns.proofs.Kept.{bars_in_order, bars_of_strips}
use Rattle.rt_columns.proofs.mask.add_mask.Goals as goal

pub add_slabs-requires : goal.add_slabs-requires
add_slabs-requires c = record {
  bars =
      bars_of_strips (map placed c.args.strips.now.list) (side_of c.args.lefts.now) (side_of c.args.rights.now) c.args.mask _
      (bars_in_order (map placed c.args.strips.now.list) (side_of c.args.lefts.now) (side_of c.args.rights.now) c.args.mask _ _ c.in_ok-sweep.ensures.same_bars c.in_ok-bars.ensures);
}

pub returns : goal.returns
returns c =
    c.in_ok-add_slabs.ensures.shown (side_of c.args.lefts.now) (side_of c.args.rights.now) c.args.mask
    (bars_in_order (map placed c.args.strips.now.list) (side_of c.args.lefts.now) (side_of c.args.rights.now) c.args.mask _ _ c.in_ok-sweep.ensures.same_bars c.in_ok-bars.ensures)
    (All-permutation (λ (bar : Bar). c.in_ok-sweep.sweep.height ≤ℤ bar.at.y1) c.in_ok-bars.bars.items c.in_ok-sweep.sweep.bars c.in_ok-sweep.ensures.same_bars c.in_ok-sweep.ensures.above)
