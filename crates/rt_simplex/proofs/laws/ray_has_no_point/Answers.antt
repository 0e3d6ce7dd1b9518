use Rattle.rt_simplex.proofs.Rays.{ray_has_no_point_each}
use Rattle.rt_simplex.proofs.laws.ray_has_no_point.Goals as goal

pub returns : goal.returns
returns c = ray_has_no_point_each
