use Rattle.rt_shapes.proofs.First.{first_is_unsound}
use Rattle.rt_shapes.proofs.laws.first_shape_is_unsound.Goals as goal

pub returns : goal.returns
returns c = first_is_unsound
