use Rattle.gds_flat_laws.proofs.Refusals.{not_refused}
use Rattle.gds_flat_laws.proofs.laws.flattened_is_not_refused.Goals as goal

pub returns : goal.returns
returns c = not_refused
