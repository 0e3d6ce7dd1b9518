use Rattle.gds_slabs.proofs.Placing.{moved_apart}
use Rattle.gds_slabs.proofs.laws.moved_cells_are_apart.Goals as goal

pub returns : goal.returns
returns c = moved_apart
