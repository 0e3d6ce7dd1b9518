use Rattle.gds_flat.proofs.Sequences.{one_order}
use Rattle.gds_flat.proofs.laws.one_order.Goals as goal

pub returns : goal.returns
returns c = λ library seen names o p h g. one_order library h g
