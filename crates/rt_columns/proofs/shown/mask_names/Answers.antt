use Rattle.std.proofs.Common.{map}
use Rattle.rt_strips.specs.Placed.{placed}
use Rattle.rt_columns.specs.Sides.{side_of}
use Rattle.rt_columns.proofs.Showing.{no_masks, one_more_mask}
use Rattle.rt_columns.proofs.shown.mask_names.Goals as goal

pub loop-mask-init : goal.loop-mask-init
loop-mask-init c = no_masks (map placed c.args.strips.now.list) (side_of c.args.lefts.now) (side_of c.args.rights.now) c.new-names.result c.new-names.ensures

pub loop-mask-preserved : goal.loop-mask-preserved
loop-mask-preserved c =
    one_more_mask (map placed c.args.strips.now.list) (side_of c.args.lefts.now) (side_of c.args.rights.now) c.loop-mask.mask
    c.loop-mask.names c.add_mask.new.names c.loop-mask.invariant c.in_ok-add_mask.ensures
