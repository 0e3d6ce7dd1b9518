use Rattle.rt_family.proofs.Offered.{rows_carry}
use Rattle.rt_family.proofs.laws.rows_carry.Goals as goal

pub returns : goal.returns
returns c = rows_carry
