use Rattle.rt_netlist.proofs.Offered.{labels_are_on_one_net}
use Rattle.rt_netlist.proofs.laws.labels_are_on_one_net.Goals as goal

pub returns : goal.returns
returns c = labels_are_on_one_net
