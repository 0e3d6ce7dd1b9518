use Rattle.rt_template.proofs.OneRow.{one_across}
use Rattle.rt_template.proofs.laws.one_row_across.Goals as goal

pub returns : goal.returns
returns c = one_across
