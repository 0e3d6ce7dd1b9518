use Rattle.rt_simplex.proofs.AddedCosts.{added_rows_keep_feasible_each}
use Rattle.rt_simplex.proofs.laws.added_rows_keep_feasible.Goals as goal

pub returns : goal.returns
returns c = added_rows_keep_feasible_each
