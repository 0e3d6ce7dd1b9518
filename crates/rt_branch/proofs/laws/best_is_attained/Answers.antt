use Rattle.rt_branch.proofs.Attained.{best_is_attained_each}
use Rattle.rt_branch.proofs.laws.best_is_attained.Goals as goal

pub returns : goal.returns
returns c = best_is_attained_each
