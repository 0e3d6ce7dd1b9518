use Rattle.rt_family.proofs.Offered.{whole_runs_are_a_family}
use Rattle.rt_family.proofs.laws.whole_runs_are_a_family.Goals as goal

pub returns : goal.returns
returns c = whole_runs_are_a_family
