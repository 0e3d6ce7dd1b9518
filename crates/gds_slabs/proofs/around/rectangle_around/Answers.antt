use Rattle.gds_slabs.proofs.OneSlab.{opposite, only_slab}
use Rattle.gds_slabs.proofs.around.rectangle_around.Goals as goal

pub spanned-requires : goal.spanned-requires
spanned-requires c = opposite c.args.points.now _ _ (c.goes_around.ensures.0 c.if-goes_around.true)

pub returns-then-goes_around : goal.returns-then-goes_around
returns-then-goes_around c =
    only_slab c.args.points.now _ _ c.spanned.result c.requires.closed c.requires.straight (c.goes_around.ensures.0 c.if-goes_around.true)
    c.spanned.ensures.corners c.spanned.ensures.near
