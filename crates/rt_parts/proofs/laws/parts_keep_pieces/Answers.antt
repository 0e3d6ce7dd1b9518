use Rattle.rt_parts.proofs.Offered.{parts_keep_pieces}
use Rattle.rt_parts.proofs.laws.parts_keep_pieces.Goals as goal

pub returns : goal.returns
returns c = parts_keep_pieces
