use Rattle.gds_flat_laws.proofs.RefusalsOne.{one_refusal}
use Rattle.gds_flat_laws.proofs.laws.one_refusal.Goals as goal

pub returns : goal.returns
returns c = one_refusal
