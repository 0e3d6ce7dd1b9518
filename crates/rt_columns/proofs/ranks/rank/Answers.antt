use Rattle.std.proofs.Common.{◌<◌, ◌+◌, ◌-◌, ◌/◌, ◌<ℤ◌, ◌≤ℤ◌, length, rules, arith}
use Rattle.rt_columns.specs.Sides.{side_of}
use Rattle.rt_columns.proofs.Orders.{below_middle, above_middle}
use Rattle.rt_columns.proofs.ranks.rank.Goals as goal

pub loop-low-preserved-then-sorted-middle : goal.loop-low-preserved-then-sorted-middle
loop-low-preserved-then-sorted-middle c =
    let there : c.loop-low.low + (c.loop-low.high - c.loop-low.low) / 2 < length c.args.sorted.now = omega arith in
    let less : side_of c.args.sorted.now (c.loop-low.low + (c.loop-low.high - c.loop-low.low) / 2) <ℤ c.args.number.now = search rules in
    record {
      in_order = omega arith;
      inside = c.loop-low.invariant.inside;
      below = below_middle c.args.sorted.now c.requires c.args.number.now _ there less;
      above = c.loop-low.invariant.above;
    }

pub loop-low-preserved : goal.loop-low-preserved
loop-low-preserved c =
    let more : c.args.number.now ≤ℤ side_of c.args.sorted.now (c.loop-low.low + (c.loop-low.high - c.loop-low.low) / 2) = search rules in
    record {
      in_order = omega arith;
      inside = omega arith;
      below = c.loop-low.invariant.below;
      above = above_middle c.args.sorted.now c.requires c.args.number.now _ more;
    }
