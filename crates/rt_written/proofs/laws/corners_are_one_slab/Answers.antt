use Rattle.rt_written.proofs.OnePolygon.{corners_are_one_slab}
use Rattle.rt_written.proofs.laws.corners_are_one_slab.Goals as goal

pub returns : goal.returns
returns c = corners_are_one_slab
