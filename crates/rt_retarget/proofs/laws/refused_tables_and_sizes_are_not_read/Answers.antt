use Rattle.rt_retarget.proofs.Excluded.{no_table_read, bad_table_read, two_forms_read, no_sizes_read, bad_sizes_read}
use Rattle.rt_retarget.proofs.laws.refused_tables_and_sizes_are_not_read.Goals as goal

pub returns-clause-no_table : goal.returns-clause-no_table
returns-clause-no_table c = no_table_read

pub returns-clause-bad_table : goal.returns-clause-bad_table
returns-clause-bad_table c = bad_table_read

pub returns-clause-two_forms : goal.returns-clause-two_forms
returns-clause-two_forms c = two_forms_read

pub returns-clause-no_sizes : goal.returns-clause-no_sizes
returns-clause-no_sizes c = no_sizes_read

pub returns-clause-bad_sizes : goal.returns-clause-bad_sizes
returns-clause-bad_sizes c = bad_sizes_read
