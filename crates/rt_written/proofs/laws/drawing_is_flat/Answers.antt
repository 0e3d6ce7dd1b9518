use Rattle.rt_written.proofs.ReadBack.{drawing_is_flat}
use Rattle.rt_written.proofs.laws.drawing_is_flat.Goals as goal

pub returns : goal.returns
returns c = drawing_is_flat
