use Rattle.rt_family.proofs.Offered.{carried_hosts_cover}
use Rattle.rt_family.proofs.laws.carried_hosts_cover.Goals as goal

pub returns : goal.returns
returns c = carried_hosts_cover
