use Rattle.rt_solved.proofs.Factors.{one_table_each}
use Rattle.rt_solved.proofs.laws.one_table.Goals as goal

pub returns : goal.returns
returns c = one_table_each
