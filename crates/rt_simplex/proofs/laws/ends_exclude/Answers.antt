use Rattle.rt_simplex.proofs.Rays.{ends_exclude_each}
use Rattle.rt_simplex.proofs.laws.ends_exclude.Goals as goal

pub returns : goal.returns
returns c = ends_exclude_each
