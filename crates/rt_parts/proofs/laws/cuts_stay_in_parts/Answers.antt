use Rattle.rt_parts.proofs.Offered.{cuts_stay_in_parts}
use Rattle.rt_parts.proofs.laws.cuts_stay_in_parts.Goals as goal

pub returns : goal.returns
returns c = cuts_stay_in_parts
