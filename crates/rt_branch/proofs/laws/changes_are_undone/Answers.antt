use Rattle.rt_branch.proofs.GoingBack.{changes_are_undone_each}
use Rattle.rt_branch.proofs.laws.changes_are_undone.Goals as goal

pub returns : goal.returns
returns c = changes_are_undone_each
