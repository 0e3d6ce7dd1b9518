use Rattle.rt_branch.proofs.Addable.{branches_are_addable_each}
use Rattle.rt_branch.proofs.laws.branches_are_addable.Goals as goal

pub returns : goal.returns
returns c = branches_are_addable_each
