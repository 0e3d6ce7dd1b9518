use Rattle.rt_family.proofs.Offered.{covered_has_hosts}
use Rattle.rt_family.proofs.laws.covered_has_hosts.Goals as goal

pub returns : goal.returns
returns c = covered_has_hosts
