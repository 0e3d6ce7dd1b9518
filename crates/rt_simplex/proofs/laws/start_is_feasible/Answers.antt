use Rattle.rt_simplex.proofs.Starts.{start_is_feasible_each}
use Rattle.rt_simplex.proofs.laws.start_is_feasible.Goals as goal

pub returns : goal.returns
returns c = start_is_feasible_each
