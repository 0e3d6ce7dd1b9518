use Rattle.rt_family.proofs.Sample.{an_l}
use Rattle.rt_family.proofs.laws.an_l_is_carried.Goals as goal

pub returns : goal.returns
returns c = an_l
