use Rattle.gds_flat.proofs.Sequences.{one_missing}
use Rattle.gds_flat.proofs.laws.one_missing.Goals as goal

pub returns : goal.returns
returns c = λ library seen names m n h g. one_missing library h g
