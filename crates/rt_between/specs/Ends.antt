-- The lowest and the highest hosts of a strip, as they are found.
use Rattle.std.specs.Prelude.{ℕ, ℤ, ◌≤ℤ◌, ◌<ℤ◌}
use Rattle.rt_strips.specs.Placed.{bottom_of, top_of}
use Rattle.rt_template.specs.Between.{IsHostUnder}
use Rattle.rt_view.specs.declared.job.Job.{Job}
use Rattle.rt_view.specs.Job.{strips_of}

module _ (job : Job) (q i : ℕ) (row : ℤ) where
  -- strip k is a host of strip i under enclosure q, and begins below the row
  pub record IsHostBelow (k : ℕ) : Type 0 where
    pub below : bottom_of (strips_of job) k <ℤ row
    pub host : IsHostUnder job q i k

  -- strip k is a host of strip i under enclosure q, and ends above the row
  pub record IsHostAbove (k : ℕ) : Type 0 where
    pub above : row <ℤ top_of (strips_of job) k
    pub host : IsHostUnder job q i k

  -- no host of strip i begins below the row
  pub record NoneBeginsBelow : Type 0 where
    pub none : (k : ℕ) → IsHostUnder job q i k → row ≤ℤ bottom_of (strips_of job) k

  -- no host of strip i ends above the row
  pub record NoneEndsAbove : Type 0 where
    pub none : (k : ℕ) → IsHostUnder job q i k → top_of (strips_of job) k ≤ℤ row
