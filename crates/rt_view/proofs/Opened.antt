-- What is told whole of a job.
use Rattle.rt_view.specs.declared.job.Job.{Job}
use Rattle.rt_view.specs.Job.{Whole, HasSoundSource, IsJob}

opened : (P : Type 0) → Whole P → P
opened P (Whole.whole p) = p

-- its source is sound
pub sound_source : (job : Job) (is : IsJob job) → HasSoundSource is.layout job.source job.target
sound_source job is = opened (HasSoundSource is.layout job.source job.target) is.job_of.sound_source
