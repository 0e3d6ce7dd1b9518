use Rattle.rt_strips.proofs.Tallied.{layout_tallied}
use Rattle.rt_strips.proofs.layers.tally_of.Goals as goal

pub returns : goal.returns
returns c =
    layout_tallied c.args.layout.now c.args.tech.now c.args.most c.in_ok-tally.tally c.add_channels.new.tally c.requires.masks c.in_ok-tally.ensures c.in_ok-add_channels.ensures
