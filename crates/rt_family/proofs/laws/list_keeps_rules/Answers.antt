use Rattle.rt_family.proofs.Offered.{list_keeps_rules}
use Rattle.rt_family.proofs.laws.list_keeps_rules.Goals as goal

pub returns : goal.returns
returns c = list_keeps_rules
