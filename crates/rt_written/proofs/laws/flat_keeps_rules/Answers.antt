use Rattle.rt_written.proofs.ReadBack.{flat_keeps_rules}
use Rattle.rt_written.proofs.laws.flat_keeps_rules.Goals as goal

pub returns : goal.returns
returns c = flat_keeps_rules
