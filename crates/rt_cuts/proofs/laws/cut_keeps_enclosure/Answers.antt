use Rattle.rt_cuts.proofs.Offered.{cut_keeps_enclosure}
use Rattle.rt_cuts.proofs.laws.cut_keeps_enclosure.Goals as goal

pub returns : goal.returns
returns c = cut_keeps_enclosure
