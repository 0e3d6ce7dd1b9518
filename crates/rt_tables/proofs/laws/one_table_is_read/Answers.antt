use Rattle.rt_tables.proofs.Valid.{same_table}
use Rattle.rt_tables.proofs.laws.one_table_is_read.Goals as goal

pub returns : goal.returns
returns c = same_table
