use Rattle.rt_links.proofs.Offered.{net_numbers_are_carried}
use Rattle.rt_links.proofs.laws.net_numbers_are_carried.Goals as goal

pub returns : goal.returns
returns c = net_numbers_are_carried
