use Rattle.rt_channels.proofs.Offered.{cross_kept}
use Rattle.rt_channels.proofs.laws.carried_channels_keep_cross.Goals as goal

pub returns : goal.returns
returns c = cross_kept
