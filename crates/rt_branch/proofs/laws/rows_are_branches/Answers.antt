use Rattle.rt_branch.proofs.Variables.{rows_are_branches_each}
use Rattle.rt_branch.proofs.laws.rows_are_branches.Goals as goal

pub returns : goal.returns
returns c = rows_are_branches_each
