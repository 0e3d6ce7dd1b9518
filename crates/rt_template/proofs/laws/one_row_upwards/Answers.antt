use Rattle.rt_template.proofs.OneRow.{one_upwards}
use Rattle.rt_template.proofs.laws.one_row_upwards.Goals as goal

pub returns : goal.returns
returns c = one_upwards
