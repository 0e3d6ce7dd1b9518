use Rattle.rt_branch.proofs.OneMove.{one_move_each}
use Rattle.rt_branch.proofs.laws.one_move.Goals as goal

pub returns : goal.returns
returns c = one_move_each
