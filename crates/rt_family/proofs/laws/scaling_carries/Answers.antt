use Rattle.rt_family.proofs.Offered.{scaling_carries}
use Rattle.rt_family.proofs.laws.scaling_carries.Goals as goal

pub returns : goal.returns
returns c = scaling_carries
