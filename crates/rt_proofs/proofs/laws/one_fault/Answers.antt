use Rattle.rt_proofs.proofs.Once.{one_fault}
use Rattle.rt_proofs.proofs.laws.one_fault.Goals as goal

pub returns : goal.returns
returns c = one_fault
