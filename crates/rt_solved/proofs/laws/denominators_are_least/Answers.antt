use Rattle.rt_solved.proofs.Factors.{least_each}
use Rattle.rt_solved.proofs.laws.denominators_are_least.Goals as goal

pub returns : goal.returns
returns c = least_each
