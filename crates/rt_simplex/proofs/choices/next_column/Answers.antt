use Rattle.rt_simplex.proofs.Entering.{column_at_last}
use Rattle.rt_simplex.proofs.choices.next_column.Goals as goal

pub returns : goal.returns
returns c =
    column_at_last c.args.table.now c.args.p c.goal_row-row.result c.loop-j.found c.loop-j.j c.columns-j-end.result c.requires c.goal_row-row.ensures c.loop-j.invariant c.columns-j-end.ensures c.loop-j.auto.j-end
    c.loop-j-test.false
