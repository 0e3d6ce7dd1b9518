use Rattle.rt_moved.proofs.Clean.{moved_breaks_no_rule}
use Rattle.rt_moved.proofs.laws.moved_breaks_no_rule.Goals as goal

pub returns : goal.returns
returns c = moved_breaks_no_rule
