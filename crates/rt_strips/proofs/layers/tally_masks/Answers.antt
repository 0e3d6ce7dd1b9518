use Rattle.std.proofs.Common.{refl}
use Rattle.rt_layout.specs.Covering.{MaskCovers}
use Rattle.rt_strips.proofs.Tallied.{tallied_none, mask_tallied}
use Rattle.rt_strips.proofs.layers.tally_masks.Goals as goal

pub loop-mask-init : goal.loop-mask-init
loop-mask-init c = tallied_none (MaskCovers c.args.layout.now) c.args.most _ c.new.ensures.items refl

pub loop-mask-preserved : goal.loop-mask-preserved
loop-mask-preserved c =
    mask_tallied c.args.layout.now c.as_slice-masks.result.now c.loop-mask.mask c.args.most c.as_slice.result.now c.index-masks-mask.result c.loop-mask.tally c.add_mask.new.self
    c.as_slice-masks.ensures c.loop-mask-test.true c.index-masks-mask.is c.as_slice.ensures c.loop-mask.invariant c.in_ok-add_mask.ensures
