use Rattle.rt_rows.specs.Places.{places}
use Rattle.rt_vtemplate.proofs.Told.{row_there}
use Rattle.rt_vtemplate.proofs.single.has_row_v.Goals as goal

pub returns-then-has_name : goal.returns-then-has_name
returns-then-has_name c = row_there c.args.job.now (places c.args.columns.now) c.args.name c.own_row.result c.own_row.ensures c.if-has_name.ensures
