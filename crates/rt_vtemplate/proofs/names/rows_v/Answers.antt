use Rattle.rt_rows.specs.Places.{places}
use Rattle.rt_template.specs.Vertical.{HasUpwards}
use Rattle.rt_vtemplate.proofs.Upwards.{listed}
use Rattle.rt_vtemplate.proofs.names.rows_v.Goals as goal

pub returns : goal.returns
returns c = listed (HasUpwards c.args.job.now (places c.args.columns.now)) _ _ c.in_ok-names.ensures c.in_ok-sorted.ensures
