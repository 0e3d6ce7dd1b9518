use Rattle.rt_netlist.proofs.Offered.{one_list_of_numbers}
use Rattle.rt_netlist.proofs.laws.one_list_of_numbers.Goals as goal

pub returns : goal.returns
returns c = one_list_of_numbers
