use Rattle.rt_family.proofs.Offered.{carried_keeps_pieces_apart}
use Rattle.rt_family.proofs.laws.carried_keeps_pieces_apart.Goals as goal

pub returns : goal.returns
returns c = carried_keeps_pieces_apart
