use Rattle.rt_groups.proofs.Kin.{linking}
use Rattle.rt_groups.proofs.joining.link.Goals as goal

pub returns : goal.returns
returns c = linking c.args.parents.now c.args.high c.args.low c.requires.there c.requires.below c.requires.own c.requires.down
