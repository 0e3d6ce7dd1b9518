use Rattle.rt_moved.proofs.Extents.{moved_fits}
use Rattle.rt_moved.proofs.laws.moved_fits.Goals as goal

pub returns : goal.returns
returns c = moved_fits
