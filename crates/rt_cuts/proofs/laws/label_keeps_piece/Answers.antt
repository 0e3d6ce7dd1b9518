use Rattle.rt_cuts.proofs.Offered.{label_keeps_piece}
use Rattle.rt_cuts.proofs.laws.label_keeps_piece.Goals as goal

pub returns : goal.returns
returns c = label_keeps_piece
