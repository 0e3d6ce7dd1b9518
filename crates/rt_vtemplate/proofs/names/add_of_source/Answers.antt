use Rattle.std.proofs.Common.{length, ap}
use Rattle.rt_vtemplate.proofs.Upwards.{job_strips, source_added}
use Rattle.rt_vtemplate.proofs.names.add_of_source.Goals as goal

pub add_standing-requires-clause-strips : goal.add_standing-requires-clause-strips
add_standing-requires-clause-strips c = job_strips c.args.job.now c.requires.job

pub returns : goal.returns
returns c =
    source_added c.args.job.now _ _ _ _ _ (ap length c.as_slice.ensures) c.in_ok-add_of_whole.ensures c.in_ok-add_of_strips.ensures c.in_ok-add_standing.ensures
