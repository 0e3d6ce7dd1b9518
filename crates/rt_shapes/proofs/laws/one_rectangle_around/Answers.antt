use Rattle.rt_shapes.proofs.First.{rectangle_is_one}
use Rattle.rt_shapes.proofs.laws.one_rectangle_around.Goals as goal

pub returns : goal.returns
returns c = rectangle_is_one
