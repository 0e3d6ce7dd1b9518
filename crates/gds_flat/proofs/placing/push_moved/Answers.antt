use Rattle.gds_flat.proofs.BoundsOfSteps.{item_near}
use Rattle.gds_flat.proofs.placing.push_moved.Goals as goal

pub moved_item-requires-clause-near : goal.moved_item-requires-clause-near
moved_item-requires-clause-near c =
    item_near c.args.inner.now c.loop-item.item-index c.item-item.result c.loop-item-test.true c.item-item.is c.requires.near
