use Rattle.rt_simplex.proofs.Gathered.{times_told}
use Rattle.rt_simplex.proofs.bounding.goal_times.Goals as goal

pub returns-in-Some-clause-is : goal.returns-in-Some-clause-is
returns-in-Some-clause-is c =
    times_told c.args.table.now c.args.row.now c.in-Some.i c.args.goal c.whole.result c.in-Some.is c.requires.row c.requires.goal c.requires.there c.whole.ensures.entry c.whole.ensures.small
