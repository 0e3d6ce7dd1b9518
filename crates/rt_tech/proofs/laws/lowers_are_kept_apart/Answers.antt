use Rattle.rt_tech.proofs.Demanded.{lowers_apart}
use Rattle.rt_tech.proofs.laws.lowers_are_kept_apart.Goals as goal

pub returns : goal.returns
returns c = lowers_apart
