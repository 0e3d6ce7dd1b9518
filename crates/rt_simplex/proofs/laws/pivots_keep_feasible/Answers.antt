use Rattle.rt_simplex.proofs.Kept.{kept_by_pivot}
use Rattle.rt_simplex.proofs.laws.pivots_keep_feasible.Goals as goal

pub returns : goal.returns
returns c = kept_by_pivot
