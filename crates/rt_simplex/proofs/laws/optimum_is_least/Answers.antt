use Rattle.rt_simplex.proofs.Leasts.{least_at_basis}
use Rattle.rt_simplex.proofs.laws.optimum_is_least.Goals as goal

pub returns : goal.returns
returns c = λ state point feasible basis. least_at_basis state feasible point basis
