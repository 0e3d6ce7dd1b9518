use Rattle.rt_tableau.proofs.Excluding.{excludes}
use Rattle.rt_tableau.proofs.laws.overflow_excludes.Goals as goal

pub returns : goal.returns
returns c = excludes
