use Rattle.rt_parts.proofs.Sample.{two_strips_are_cut}
use Rattle.rt_parts.proofs.laws.two_strips_are_cut.Goals as goal

pub returns : goal.returns
returns c = two_strips_are_cut
