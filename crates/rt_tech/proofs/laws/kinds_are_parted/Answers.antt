use Rattle.rt_tech.proofs.Demanded.{kinds_parted}
use Rattle.rt_tech.proofs.laws.kinds_are_parted.Goals as goal

pub returns : goal.returns
returns c = kinds_parted
