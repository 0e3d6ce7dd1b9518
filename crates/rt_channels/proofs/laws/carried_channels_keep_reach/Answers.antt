use Rattle.rt_channels.proofs.Offered.{reach_kept}
use Rattle.rt_channels.proofs.laws.carried_channels_keep_reach.Goals as goal

pub returns : goal.returns
returns c = reach_kept
