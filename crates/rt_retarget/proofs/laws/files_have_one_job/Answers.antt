use Rattle.rt_retarget.proofs.OneJob.{one_job}
use Rattle.rt_retarget.proofs.laws.files_have_one_job.Goals as goal

pub returns : goal.returns
returns c = one_job
