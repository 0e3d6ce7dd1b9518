use Rattle.rt_tech.proofs.Demanded.{none_of_two}
use Rattle.rt_tech.proofs.laws.none_is_of_two_kinds.Goals as goal

pub returns : goal.returns
returns c = none_of_two
