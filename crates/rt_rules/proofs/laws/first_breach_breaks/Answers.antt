use Rattle.rt_rules.proofs.First.{layout_breach_breaks}
use Rattle.rt_rules.proofs.laws.first_breach_breaks.Goals as goal

pub returns : goal.returns
returns c = layout_breach_breaks
