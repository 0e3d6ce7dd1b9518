use Rattle.rt_tables.proofs.Valid.{not_both}
use Rattle.rt_tables.proofs.laws.a_table_has_no_fault.Goals as goal

pub returns : goal.returns
returns c = not_both
