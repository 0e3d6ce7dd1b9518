use Rattle.gds_flat.proofs.Sequences.{no_order_and_missing}
use Rattle.gds_flat.proofs.laws.no_order_and_missing.Goals as goal

pub returns : goal.returns
returns c = λ library seen names o n h g. no_order_and_missing library h g
