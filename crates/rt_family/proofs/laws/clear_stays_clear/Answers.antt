use Rattle.rt_family.proofs.Offered.{clear_stays_clear}
use Rattle.rt_family.proofs.laws.clear_stays_clear.Goals as goal

pub returns : goal.returns
returns c = clear_stays_clear
