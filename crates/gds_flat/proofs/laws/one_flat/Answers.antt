use Rattle.gds_flat.proofs.Flattening.{one_flat}
use Rattle.gds_flat.proofs.laws.one_flat.Goals as goal

pub returns : goal.returns
returns c = one_flat
