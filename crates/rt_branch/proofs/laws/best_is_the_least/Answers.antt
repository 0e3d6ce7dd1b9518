use Rattle.rt_branch.proofs.TheLeast.{best_is_the_least_each}
use Rattle.rt_branch.proofs.laws.best_is_the_least.Goals as goal

pub returns : goal.returns
returns c = best_is_the_least_each
