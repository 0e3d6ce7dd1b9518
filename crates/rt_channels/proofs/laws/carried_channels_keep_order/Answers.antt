use Rattle.rt_channels.proofs.Offered.{order_kept}
use Rattle.rt_channels.proofs.laws.carried_channels_keep_order.Goals as goal

pub returns : goal.returns
returns c = order_kept
