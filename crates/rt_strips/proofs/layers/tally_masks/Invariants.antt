use Rattle.rt_layout.specs.Covering.{MaskCovers}
use Rattle.rt_strips.specs.Tallies.{AreTallied}
use Rattle.rt_strips.proofs.layers.tally_masks.Given as goal

abbrev pub invariant-loop-mask : goal.invariant-loop-mask
invariant-loop-mask l = AreTallied (MaskCovers l.layout) l.mask l.most l.tally
