use Rattle.rt_netlist.proofs.Offered.{numbers_tell_nets}
use Rattle.rt_netlist.proofs.laws.numbers_tell_nets.Goals as goal

pub returns : goal.returns
returns c = numbers_tell_nets
