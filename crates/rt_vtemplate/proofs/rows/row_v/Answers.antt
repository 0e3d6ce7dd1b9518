use Rattle.rt_vtemplate.proofs.Listed.{row_told}
use Rattle.rt_vtemplate.proofs.rows.row_v.Goals as goal

pub returns : goal.returns
returns c = row_told c.args.job.now c.args.name.now _ c.own_row.ensures
