use Rattle.rt_channels.proofs.Offered.{channels_drawn}
use Rattle.rt_channels.proofs.laws.carried_channels_are_drawn.Goals as goal

pub returns : goal.returns
returns c = channels_drawn
