use Rattle.rt_cuts.proofs.Offered.{cut_pieces_are_strips}
use Rattle.rt_cuts.proofs.laws.cut_pieces_are_strips.Goals as goal

pub returns : goal.returns
returns c = cut_pieces_are_strips
