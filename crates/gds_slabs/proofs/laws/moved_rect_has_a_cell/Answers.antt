use Rattle.gds_slabs.proofs.Placing.{moved_nonempty}
use Rattle.gds_slabs.proofs.laws.moved_rect_has_a_cell.Goals as goal

pub returns : goal.returns
returns c = moved_nonempty
