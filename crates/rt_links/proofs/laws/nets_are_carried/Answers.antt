use Rattle.rt_links.proofs.Offered.{nets_are_carried}
use Rattle.rt_links.proofs.laws.nets_are_carried.Goals as goal

pub returns : goal.returns
returns c = nets_are_carried
