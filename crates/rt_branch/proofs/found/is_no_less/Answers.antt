use Rattle.rt_branch.proofs.Pruning.{no_less_told}
use Rattle.rt_branch.proofs.found.is_no_less.Goals as goal

pub returns : goal.returns
returns c =
    no_less_told c.args.extent.now c.args.over.now c.args.right.now c.from.result c.from-2.result c.from-3.result c.requires.extent c.requires.over c.requires.right c.from.ensures c.from-2.ensures c.from-3.ensures
