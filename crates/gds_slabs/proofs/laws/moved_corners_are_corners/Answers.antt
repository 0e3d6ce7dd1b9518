use Rattle.gds_slabs.proofs.Corners.{corners_moved}
use Rattle.gds_slabs.proofs.laws.moved_corners_are_corners.Goals as goal

pub returns : goal.returns
returns c = corners_moved
