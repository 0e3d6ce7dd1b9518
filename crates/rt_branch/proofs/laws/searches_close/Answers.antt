use Rattle.rt_branch.proofs.Closing.{searches_close_each}
use Rattle.rt_branch.proofs.laws.searches_close.Goals as goal

pub returns : goal.returns
returns c = searches_close_each
