use Rattle.rt_netlist_laws.proofs.Offered.{moved_keeps_nets}
use Rattle.rt_netlist_laws.proofs.laws.moved_keeps_nets.Goals as goal

pub returns : goal.returns
returns c = moved_keeps_nets
