use Rattle.rt_proofs.proofs.Once.{excludes}
use Rattle.rt_proofs.proofs.laws.fault_excludes.Goals as goal

pub returns : goal.returns
returns c = excludes
