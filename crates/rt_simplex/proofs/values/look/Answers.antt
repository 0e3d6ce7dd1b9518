use Rattle.rt_simplex.proofs.Gathered.{no_table}
use Rattle.rt_simplex.proofs.values.look.Goals as goal

pub returns-else-rows-gt0 : goal.returns-else-rows-gt0
returns-else-rows-gt0 c = no_table c.args.table.now c.rows.result c.rows.ensures c.if-rows-gt0.false
