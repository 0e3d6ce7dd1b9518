use Rattle.std.proofs.Common.{length}
use Rattle.rt_groups.proofs.Pairing.{flat_groups}
use Rattle.rt_groups.proofs.joining.settle.Goals as goal

pub returns : goal.returns
returns c =
    flat_groups (length c.args.parents.now) c.args.pairs.now c.join_all.new.parents c.flatten.new.parents c.join_all.ensures.counted c.join_all.ensures.parents
    c.flatten.ensures.as_before c.flatten.ensures.flat
