use Rattle.rt_tech.proofs.Demanded.{cuts_enclosed}
use Rattle.rt_tech.proofs.laws.cuts_are_enclosed.Goals as goal

pub returns : goal.returns
returns c = cuts_enclosed
