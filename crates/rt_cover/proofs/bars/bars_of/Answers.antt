use Rattle.std.proofs.Common.{◌+◌, map, subst, sym}
use Rattle.rt_strips.specs.Placed.{placed}
use Rattle.rt_cover.specs.Bars.{AreBarsOf}
use Rattle.rt_cover.proofs.Listing.{area_more}
use Rattle.rt_cover.proofs.bars.bars_of.Goals as goal

pub loop-i-preserved : goal.loop-i-preserved
loop-i-preserved c =
    subst (AreBarsOf c.args.m (map placed c.args.strips.now) 0 c.args.areas.now (c.loop-i.i + 1)) (sym c.in_ok-push.ensures.items)
    (area_more c.args.m (map placed c.args.strips.now) c.args.areas.now c.loop-i.i c.index-areas-i.result c.loop-i.bars.items c.loop-i-test.true c.index-areas-i.is
    c.loop-i.invariant)
