use Rattle.rt_simplex.proofs.OneRun.{one_outcome_each}
use Rattle.rt_simplex.proofs.laws.one_outcome.Goals as goal

pub returns : goal.returns
returns c = one_outcome_each
