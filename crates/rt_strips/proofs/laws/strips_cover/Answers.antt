use Rattle.rt_strips.proofs.LayoutStrips.{mask_covers}
use Rattle.rt_strips.proofs.laws.strips_cover.Goals as goal

pub returns : goal.returns
returns c = mask_covers
