use Rattle.rt_tableau.proofs.OneEntry.{one_entry_each}
use Rattle.rt_tableau.proofs.laws.one_entry.Goals as goal

pub returns : goal.returns
returns c = one_entry_each
