use Rattle.rt_family.proofs.Offered.{untouched_is_carried}
use Rattle.rt_family.proofs.laws.untouched_is_carried.Goals as goal

pub returns : goal.returns
returns c = untouched_is_carried
