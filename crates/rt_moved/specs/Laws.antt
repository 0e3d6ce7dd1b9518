-- What is promised of positions that meet both templates.
use Rattle.std.specs.Prelude.{ℕ, ℤ, pos, ◌*ℤ◌, ◌≤ℤ◌}
use Rattle.rt_cells.specs.Rectangles.{Rectangle, IsNonempty}
use Rattle.rt_view.specs.declared.job.Job.{Job}
use Rattle.rt_view.specs.Job.{strips_of, IsJob}
use Rattle.rt_rows.specs.declared.positions.TheConstants.{EXTENT_LIMIT}
use Rattle.rt_rows.specs.declared.row.Var.{Var}
use Rattle.rt_rows.specs.declared.row.Var.TheVariants.{Width, Height}
use Rattle.rt_rules.specs.Rules.{BreaksNoRule}
use Rattle.rt_strips.specs.Placed.{covered_by}
use Rattle.rt_strips.specs.Standing.{IsStrip}
use Rattle.rt_tech.specs.Tech.{IsGrid}
use Rattle.rt_template.specs.Horizontal.{MeetsAcross}
use Rattle.rt_template.specs.Vertical.{MeetsUpwards}
use Rattle.rt_template.specs.Drawing.{drawn_area, drawn}

-- positions that meet both templates draw a layout that breaks no rule of the target's table, in database units
abbrev pub MovedBreaksNoRule : Type 0
MovedBreaksNoRule = (job : Job) → IsJob job → (at : Var → ℤ) → MeetsAcross job at → MeetsUpwards job at at
    → BreaksNoRule job.target.grid job.target (λ m. covered_by m (drawn job.target.grid at (strips_of job)))

-- a rectangle has a cell, and lies between 0 and both extents
pub record LiesIn (width height : ℤ) (r : Rectangle) : Type 0 where
  pub nonempty : IsNonempty r
  pub left : pos 0 ≤ℤ r.left
  pub right : r.right ≤ℤ width
  pub bottom : pos 0 ≤ℤ r.bottom
  pub top : r.top ≤ℤ height

-- an extent that positions may have, in target steps
pub record IsExtent (extent : ℤ) : Type 0 where
  pub low : pos 0 ≤ℤ extent
  pub high : extent ≤ℤ EXTENT_LIMIT

-- the grid and both extents are ones that can be written, and the drawing of each strip has a cell and lies in the extents
pub record FitsExtents (job : Job) (at : Var → ℤ) : Type 0 where
  pub grid : IsGrid job.target.grid
  pub width : IsExtent (at Width)
  pub height : IsExtent (at Height)
  pub strips : (i : ℕ) → IsStrip (strips_of job) i
      → LiesIn (job.target.grid *ℤ at Width) (job.target.grid *ℤ at Height) (drawn_area job.target.grid at i)

-- positions that meet both templates fit
abbrev pub MovedFits : Type 0
MovedFits = (job : Job) → IsJob job → (at : Var → ℤ) → MeetsAcross job at → MeetsUpwards job at at → FitsExtents job at
