use Rattle.rt_branch.proofs.OneSearch.{one_ending_each}
use Rattle.rt_branch.proofs.laws.one_ending.Goals as goal

pub returns : goal.returns
returns c = one_ending_each
