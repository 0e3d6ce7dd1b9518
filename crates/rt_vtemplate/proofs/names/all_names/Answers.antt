use Rattle.rt_rows.specs.Places.{places}
use Rattle.rt_vtemplate.proofs.Upwards.{job_strips, upwards_hold}
use Rattle.rt_vtemplate.proofs.names.all_names.Goals as goal

pub returns : goal.returns
returns c =
    upwards_hold c.args.job.now (places c.args.columns.now) (job_strips c.args.job.now c.requires.job) _ _ _ _
    c.in_ok-names.ensures c.in_ok-add_of_source.ensures c.in_ok-add_near.ensures c.in_ok-add_between.ensures
