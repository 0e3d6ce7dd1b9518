use Rattle.rt_proofs.proofs.Bounds.{bounds}
use Rattle.rt_proofs.proofs.laws.proof_bounds.Goals as goal

pub returns : goal.returns
returns c = bounds
