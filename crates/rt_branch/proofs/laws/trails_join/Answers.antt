use Rattle.rt_branch.proofs.GoingBack.{trails_join_each}
use Rattle.rt_branch.proofs.laws.trails_join.Goals as goal

pub returns : goal.returns
returns c = trails_join_each
