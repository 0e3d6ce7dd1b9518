use Rattle.gds_flat.proofs.PiecesShown.{polygon_appended}
use Rattle.gds_flat.proofs.own.push_slabs.Goals as goal

pub returns : goal.returns
returns c =
    polygon_appended c.push_areas.result c.args.offset c.args.mask c.args.points.now c.in_ok-rects.rects c.as_slice.result.now c.args.items.now c.push_areas.new.items
    c.in_ok-rects.ensures.slabs c.in_ok-rects.ensures.near c.as_slice.ensures c.push_areas.ensures
