use Rattle.rt_branch.proofs.OneSearch.{searches_are_one_each}
use Rattle.rt_branch.proofs.laws.searches_are_one.Goals as goal

pub returns : goal.returns
returns c = searches_are_one_each
