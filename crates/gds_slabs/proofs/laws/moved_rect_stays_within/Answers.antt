use Rattle.gds_slabs.proofs.Placing.{moved_within}
use Rattle.gds_slabs.proofs.laws.moved_rect_stays_within.Goals as goal

pub returns : goal.returns
returns c = moved_within
