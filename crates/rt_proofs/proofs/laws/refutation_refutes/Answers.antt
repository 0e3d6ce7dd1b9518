use Rattle.rt_proofs.proofs.Bounds.{refutes}
use Rattle.rt_proofs.proofs.laws.refutation_refutes.Goals as goal

pub returns : goal.returns
returns c = refutes
