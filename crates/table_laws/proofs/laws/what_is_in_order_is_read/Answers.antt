use Rattle.table_laws.proofs.Read.{in_order_is_read}
use Rattle.table_laws.proofs.laws.what_is_in_order_is_read.Goals as goal

pub returns : goal.returns
returns c = in_order_is_read
