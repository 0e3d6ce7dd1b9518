use Rattle.gds_flat.proofs.DrawingMasks.{layout_draws}
use Rattle.gds_flat.proofs.drawing.drawn.Goals as goal

pub returns : goal.returns
returns c = layout_draws c.args.items.now c.args.count c.in_ok-masks.masks c.in_ok-labels.labels c.requires c.in_ok-masks.ensures c.in_ok-labels.ensures
