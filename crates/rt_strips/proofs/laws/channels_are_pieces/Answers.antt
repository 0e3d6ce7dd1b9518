use Rattle.rt_strips.proofs.LayoutStrips.{strip_is_channel, channel_is_strip}
use Rattle.rt_strips.proofs.laws.channels_are_pieces.Goals as goal

pub returns : goal.returns
returns c = λ layout tech strips are r. (strip_is_channel layout tech strips are r, channel_is_strip layout tech strips are r)
