use Rattle.rt_cuts.proofs.Sample.{two_cuts_are_kept}
use Rattle.rt_cuts.proofs.laws.two_cuts_are_kept.Goals as goal

pub returns : goal.returns
returns c = two_cuts_are_kept
