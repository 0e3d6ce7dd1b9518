use Rattle.rt_cuts.proofs.Offered.{masks_keep_distance}
use Rattle.rt_cuts.proofs.laws.masks_keep_distance.Goals as goal

pub returns : goal.returns
returns c = masks_keep_distance
