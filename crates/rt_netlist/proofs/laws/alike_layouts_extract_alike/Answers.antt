use Rattle.rt_netlist.proofs.Offered.{alike_layouts_extract_alike}
use Rattle.rt_netlist.proofs.laws.alike_layouts_extract_alike.Goals as goal

pub returns : goal.returns
returns c = alike_layouts_extract_alike
