-- The public laws.
use Rattle.rt_netlist_laws.specs.Laws
use Rattle.rt_netlist_laws.proofs.Drawing.{nets_kept, numbers_kept}

pub moved_keeps_nets : Laws.MovedKeepsNets
moved_keeps_nets layout job of at across upwards p q r t one two = nets_kept layout job of at across upwards p q r t one two

pub moved_keeps_numbers : Laws.MovedKeepsNumbers
moved_keeps_numbers layout job of at across upwards labels moved so numbers = numbers_kept layout job of at across upwards labels moved so numbers
