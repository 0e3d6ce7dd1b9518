use Rattle.rt_cuts.proofs.Offered.{hosts_keep_enclosure}
use Rattle.rt_cuts.proofs.laws.hosts_keep_enclosure.Goals as goal

pub returns : goal.returns
returns c = hosts_keep_enclosure
