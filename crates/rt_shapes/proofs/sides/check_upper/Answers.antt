use Rattle.std.proofs.Common.{below_more}
use Rattle.rt_shapes.proofs.sides.check_upper.Goals as goal

pub loop-i-preserved : goal.loop-i-preserved
loop-i-preserved c = below_more _ _ c.loop-i.invariant c.if-lacks_upper.ensures
