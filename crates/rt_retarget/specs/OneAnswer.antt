-- Files have one job at most, but for how it keeps its climbs; so of the answers where nothing is refused one at most is true of them.
use Rattle.std.specs.Prelude.{◌≡◌, ℕ, List}
use Rattle.rt_base.specs.declared.plane.Axis.{Axis}
use Rattle.gds_stream.specs.declared.library.Library.{Library}
use Rattle.rt_view.specs.declared.job.Job.{Job}
use Rattle.rt_view.specs.Job.{strips_of}
use Rattle.rt_strips.specs.Standing.{IsStrip}
use Rattle.rt_strips.specs.Table.{tells}
use Rattle.rt_tech.specs.declared.sizes.Sizes.{Sizes}
use Rattle.rt_retarget.specs.declared.answer.Outcome.{Outcome}
use Rattle.rt_retarget.specs.Files.{Given}
use Rattle.rt_retarget.specs.Moved.{IsMovedJob}
use Rattle.rt_retarget.specs.Answers.{IsDone, IsInfeasible, IsOutcomeOf}

-- two jobs are the same in all but their tables of climbs, and these tell the same of all strips: the rows of bits may be of other widths,
-- with anything behind the bits of strips
pub record AreSameJobs (job other : Job) : Type 0 where
  pub view : job.view ≡ other.view
  pub climbs : (i j : ℕ) → IsStrip (strips_of job) i → IsStrip (strips_of job) j → tells job.climbs i j ≡ tells other.climbs i j
  pub source : job.source ≡ other.source
  pub target : job.target ≡ other.target
  pub wishes : job.wishes ≡ other.wishes
  pub pairs : job.pairs ≡ other.pairs

-- two moves, each by what is asked for, the library and the job, are the same
pub record AreSameMoves (asked : Sizes) (library : Library) (job : Job) (other_asked : Sizes) (other_library : Library) (other : Job) : Type 0 where
  pub one_asked : asked ≡ other_asked
  pub one_library : library ≡ other_library
  pub same_jobs : AreSameJobs job other

-- files have one job at most
abbrev pub OneJob : Type 0
OneJob = (files : Given) (asked : Sizes) (library : Library) (job : Job) (other_asked : Sizes) (other_library : Library) (other : Job)
    → IsMovedJob files asked library job → IsMovedJob files other_asked other_library other → AreSameMoves asked library job other_asked other_library other

-- files that have no positions aren't moved
abbrev pub InfeasibleIsntDone : Type 0
InfeasibleIsntDone = (files : Given) (axis : Axis) (out : List ℕ) → IsInfeasible files axis → IsDone files out → ⊥

-- they have none along one axis alone: upwards they have columns
abbrev pub InfeasibleAlongOne : Type 0
InfeasibleAlongOne = (files : Given) (axis other : Axis) → IsInfeasible files axis → IsInfeasible files other → axis ≡ other

-- files are moved to the same bytes
abbrev pub DoneIsOne : Type 0
DoneIsOne = (files : Given) (out other : List ℕ) → IsDone files out → IsDone files other → out ≡ other

-- so two outcomes of files are one
abbrev pub OneOutcome : Type 0
OneOutcome = (files : Given) (outcome other : Outcome) → IsOutcomeOf files outcome → IsOutcomeOf files other → outcome ≡ other
