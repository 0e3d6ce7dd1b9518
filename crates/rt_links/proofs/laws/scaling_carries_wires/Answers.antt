use Rattle.rt_links.proofs.Offered.{scaling_carries_wires}
use Rattle.rt_links.proofs.laws.scaling_carries_wires.Goals as goal

pub returns : goal.returns
returns c = scaling_carries_wires
