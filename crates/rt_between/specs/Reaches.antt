-- What is asked of rectangles to tell hosts.
use Rattle.std.specs.Prelude.{ℕ, ℤ, ◌+ℤ◌, ◌<ℤ◌}
use Rattle.rt_cells.specs.Rectangles.{Rectangle}
use Rattle.rt_template.specs.Between.{source_area}
use Rattle.rt_view.specs.declared.job.Job.{Job}

-- the first place lies before the one that is the number behind the second
pub record IsBefore (low high number : ℤ) : Type 0 where
  pub before : low <ℤ (high +ℤ number)

-- the second rectangle shares a column, and a row, with the first one grown by the number
pub record ReachColumns (grown host : Rectangle) (number : ℤ) : Type 0 where
  pub from_left : IsBefore host.left grown.right number
  pub to_right : IsBefore grown.left host.right number

pub record ReachRows (grown host : Rectangle) (number : ℤ) : Type 0 where
  pub from_bottom : IsBefore host.bottom grown.top number
  pub to_top : IsBefore grown.bottom host.top number

-- so it shares a cell with it
pub record Overlap (grown host : Rectangle) (number : ℤ) : Type 0 where
  pub columns : ReachColumns grown host number
  pub rows : ReachRows grown host number

-- strip h shares a cell with strip i grown by the number
abbrev pub OverlapStrips : (job : Job) (number : ℤ) (i h : ℕ) → Type 0
OverlapStrips job number i h = Overlap (source_area job i) (source_area job h) number
