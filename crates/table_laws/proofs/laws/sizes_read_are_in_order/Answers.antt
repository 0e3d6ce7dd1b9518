use Rattle.table_laws.proofs.InOrder.{sizes_in_order}
use Rattle.table_laws.proofs.laws.sizes_read_are_in_order.Goals as goal

pub returns : goal.returns
returns c = sizes_in_order
