use Rattle.rt_tables.proofs.Valid.{valid_table}
use Rattle.rt_tables.proofs.laws.a_table_read_is_valid.Goals as goal

pub returns : goal.returns
returns c = valid_table
