use Rattle.rt_tech.proofs.Demanded.{kept_from_gate}
use Rattle.rt_tech.proofs.laws.cuts_are_kept_from_gate.Goals as goal

pub returns : goal.returns
returns c = kept_from_gate
