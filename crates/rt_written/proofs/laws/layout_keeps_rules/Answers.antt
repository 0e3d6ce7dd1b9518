use Rattle.rt_written.proofs.ReadBack.{layout_keeps_rules}
use Rattle.rt_written.proofs.laws.layout_keeps_rules.Goals as goal

pub returns : goal.returns
returns c = layout_keeps_rules
