use Rattle.gds_flat.proofs.DrawingMasks.{far_found, near_more, near_all}
use Rattle.gds_flat.proofs.drawing.first_far.Goals as goal

pub returns-then-not-is_near : goal.returns-then-not-is_near
returns-then-not-is_near c =
    far_found c.args.items.now c.loop-item.item-index c.item-item.result c.loop-item-test.true c.item-item.is c.loop-item.invariant c.if-not-is_near.ensures

pub loop-item-preserved : goal.loop-item-preserved
loop-item-preserved c =
    near_more c.args.items.now c.loop-item.item-index c.item-item.result c.loop-item-test.true c.item-item.is c.loop-item.invariant c.if-not-is_near.ensures

pub returns : goal.returns
returns c = near_all c.args.items.now c.loop-item.item-index c.loop-item-test.false c.loop-item.invariant
