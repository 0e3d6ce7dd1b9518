use Rattle.rt_channels.proofs.Offered.{channels_scaled}
use Rattle.rt_channels.proofs.laws.scaling_keeps_channels.Goals as goal

pub returns : goal.returns
returns c = channels_scaled
