use Rattle.rt_frac.proofs.Unique.{one_fraction_each}
use Rattle.rt_frac.proofs.laws.one_fraction.Goals as goal

pub returns : goal.returns
returns c = one_fraction_each
