use Rattle.rt_branch.proofs.Pruning.{basic_told}
use Rattle.rt_branch.proofs.found.has_no_better.Goals as goal

pub returns-in-Some-goal_row : goal.returns-in-Some-goal_row
returns-in-Some-goal_row c =
    basic_told c.args.table.now c.args.best.now c.in-Some.best c.in-Some-goal_row.i c.columns.result c.goal_column.result c.whole.result c.whole-in-Some-goal_row.result c.is_no_less.result c.in-Some.is
    c.in-Some-goal_row.ensures c.columns.ensures c.goal_column.ensures.is c.goal_column.ensures.there c.whole.ensures.entry c.whole.ensures.small c.whole-in-Some-goal_row.ensures.entry
    c.whole-in-Some-goal_row.ensures.small c.is_no_less.ensures
