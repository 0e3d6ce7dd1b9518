use Rattle.rt_channels.proofs.Sample.{one_crossing_is_carried}
use Rattle.rt_channels.proofs.laws.one_crossing_is_carried.Goals as goal

pub returns : goal.returns
returns c = one_crossing_is_carried
