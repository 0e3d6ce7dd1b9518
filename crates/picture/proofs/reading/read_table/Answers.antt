use Rattle.rt_tech.specs.declared.table.Which.TheVariants.{Source}
use Rattle.rt_tables.proofs.Valid.{valid_table}
use Rattle.picture.proofs.reading.read_table.Goals as goal

pub returns-in-Ok : goal.returns-in-Ok
returns-in-Ok c = valid_table Source c.args.bytes.now c.in-Ok.table c.in-Ok.ensures
