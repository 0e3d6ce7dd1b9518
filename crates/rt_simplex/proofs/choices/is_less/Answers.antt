use Rattle.rt_simplex.proofs.Stored.{less_told}
use Rattle.rt_simplex.proofs.choices.is_less.Goals as goal

pub returns : goal.returns
returns c =
    less_told c.args.other_cost.now c.args.entry.now c.args.cost.now c.args.other.now c.from.result c.from-2.result c.from-3.result c.from-4.result c.requires.other_cost c.requires.entry c.requires.cost c.requires.other
    c.from.ensures c.from-2.ensures c.from-3.ensures c.from-4.ensures
