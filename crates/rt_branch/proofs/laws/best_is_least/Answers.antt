use Rattle.rt_branch.proofs.Covered.{best_is_least_each}
use Rattle.rt_branch.proofs.laws.best_is_least.Goals as goal

pub returns : goal.returns
returns c = best_is_least_each
