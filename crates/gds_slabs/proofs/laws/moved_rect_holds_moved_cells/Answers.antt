use Rattle.gds_slabs.proofs.Placing.{moved_holds, moved_from}
use Rattle.gds_slabs.proofs.laws.moved_rect_holds_moved_cells.Goals as goal

pub returns : goal.returns
returns c = λ step r u v. (moved_holds step r u v, moved_from step r u v)
