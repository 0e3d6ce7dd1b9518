-- What is to be moved, where it is a job: the view of a sound source with its strips few enough to be numbered, and both tables.
use Rattle.std.specs.Prelude.{◌≡◌, ℕ, pos, ◌<◌, ◌^◌, List, [], length, map, All}
use Rattle.rt_layout.specs.declared.layout.Layout.{Layout}
use Rattle.rt_layout.specs.Covering.{MaskCovers}
use Rattle.rt_rules.specs.Pairs.{HasMeasuredPairs}
use Rattle.rt_rules.specs.Rules.{BreaksNoRule}
use Rattle.rt_tech.specs.declared.table.Tech.{Tech}
use Rattle.rt_tech.specs.Tech.{mask_count, IsMeasured, IsValidTech}
use Rattle.rt_strips.specs.Placed.{Placed, placed}
use Rattle.rt_strips.specs.Table.{AreClimbsOf}
use Rattle.rt_view.specs.declared.job.Job.{Job}
use Rattle.rt_view.specs.Shapes.{IsWiring}
use Rattle.rt_view.specs.View.{IsViewOf}

-- the strips of the job, by their numbers
abbrev pub strips_of : Job → List Placed
strips_of job = map placed job.view.strips.list

-- two tables speak of the same masks: they are of the same roles, each cut has the same masks above and below it, and so are the masks of each
-- enclosure and of each distance
pub record SpeakOfTheSame (source target : Tech) : Type 0 where
  pub roles : map (λ mask. mask.role) source.masks ≡ map (λ mask. mask.role) target.masks
  pub uppers : map (λ mask. mask.upper) source.masks ≡ map (λ mask. mask.upper) target.masks
  pub lowers : map (λ mask. mask.lowers) source.masks ≡ map (λ mask. mask.lowers) target.masks
  pub enclosed : map (λ enclose. enclose.cut) source.encloses ≡ map (λ enclose. enclose.cut) target.encloses
  pub enclosing : map (λ enclose. enclose.mask) source.encloses ≡ map (λ enclose. enclose.mask) target.encloses
  pub first_apart : map (λ apart. apart.a) source.aparts ≡ map (λ apart. apart.a) target.aparts
  pub second_apart : map (λ apart. apart.b) source.aparts ≡ map (λ apart. apart.b) target.aparts
  pub apart_on : map (λ apart. apart.on) source.aparts ≡ map (λ apart. apart.on) target.aparts

-- the source's table is valid, with masks of metal and cuts alone, the target's speaks of the same masks, and the layout breaks no rule of the source's
pub record HasSoundSource (layout : Layout) (source target : Tech) : Type 0 where
  pub valid : IsValidTech source
  pub same_form : SpeakOfTheSame source target
  pub wiring : All IsWiring source.masks
  pub clean : BreaksNoRule (pos 1) source (MaskCovers layout)

-- a fact that is told whole. It is no record, so that a search for proofs doesn't take it apart at each goal
pub data Whole (P : Type 0) : Type 0 where
  whole : P → Whole P

-- it is the job of moving the layout
pub record IsJobOf (layout : Layout) (job : Job) : Type 0 where
  pub view : IsViewOf layout job.source job.view
  pub few : length job.view.strips.list < 2 ^ 32
  pub climbs : AreClimbsOf (strips_of job) job.climbs
  pub source : IsMeasured job.source
  pub target : IsMeasured job.target
  pub source_pairs : HasMeasuredPairs job.source
  pub target_pairs : HasMeasuredPairs job.target
  pub same_masks : mask_count job.target ≡ mask_count job.source
  pub sound_source : Whole (HasSoundSource layout job.source job.target)
  pub wishes : length job.wishes ≡ length job.view.channels
  pub no_pairs : job.pairs ≡ []

-- it is the job of moving some layout
pub record IsJob (job : Job) : Type 0 where
  pub layout : Layout
  pub job_of : IsJobOf layout job
