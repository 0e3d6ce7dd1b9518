use Rattle.rt_written.proofs.ReadBack.{flat_is_the_drawing}
use Rattle.rt_written.proofs.laws.flat_is_the_drawing.Goals as goal

pub returns : goal.returns
returns c = flat_is_the_drawing
