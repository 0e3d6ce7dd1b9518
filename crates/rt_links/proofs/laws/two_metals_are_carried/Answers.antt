use Rattle.rt_links.proofs.Sample.{two_metals_are_carried}
use Rattle.rt_links.proofs.laws.two_metals_are_carried.Goals as goal

pub returns : goal.returns
returns c = two_metals_are_carried
