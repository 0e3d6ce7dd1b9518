-- The drawing of positions that meet both templates, as a cell of shapes and texts.
use Rattle.std.specs.Prelude.{◌≡◌, ℕ, ◌<◌, ℤ, List, map, length}
use Rattle.rt_view.specs.declared.job.Job.{Job}
use Rattle.rt_view.specs.Job.{strips_of}
use Rattle.rt_rows.specs.declared.row.Var.{Var}
use Rattle.rt_rows.specs.declared.positions.Positions.{Positions}
use Rattle.rt_strips.specs.Placed.{Placed, mask_of}
use Rattle.rt_strips.specs.Standing.{IsStrip}
use Rattle.rt_tech.specs.declared.table.Tech.{Tech}
use Rattle.rt_tech.specs.Tech.{mask_count, IsGrid}
use Rattle.rt_template.specs.Drawing.{drawn_area, drawn}
use Rattle.gds_stream.specs.declared.cell.Flat.{Flat}
use Rattle.rt_carry.specs.Shapes.{shape_of, AreInExtent}
use Rattle.rt_carry.specs.Texts.{AreNotesOf}

-- each list of the positions has one entry a strip
pub record HavePlaces (strips : List Placed) (at : Positions) : Type 0 where
  pub lefts : length at.l ≡ length strips
  pub rights : length at.r ≡ length strips
  pub bottoms : length at.b ≡ length strips
  pub tops : length at.t ≡ length strips

-- strips that can be drawn at the positions: a step is a lawful number of units, each strip is of a mask of the table, and its sides lie
-- within the most that an extent may be
pub record CanBeDrawn (target : Tech) (strips : List Placed) (at : Var → ℤ) : Type 0 where
  pub grid : IsGrid target.grid
  pub masks : (i : ℕ) → IsStrip strips i → mask_of strips i < mask_count target
  pub sides : (i : ℕ) → IsStrip strips i → AreInExtent at i

-- strip i in the drawing
abbrev pub strip_drawn : ℤ → (Var → ℤ) → List Placed → ℕ → Placed
strip_drawn grid at strips i = record { mask = mask_of strips i; area = drawn_area grid at i }

-- the cell of the drawing: a shape for each strip and a text for each label, in order, on the target's grid and layers, in the target's units
pub record IsDrawingOf (job : Job) (at : Var → ℤ) (library cell : List ℕ) (flat : Flat) : Type 0 where
  pub in_library : flat.library ≡ library
  pub named : flat.name ≡ cell
  pub units : flat.units ≡ job.target.units
  pub shapes : flat.shapes ≡ map (shape_of job.target) (drawn job.target.grid at (strips_of job))
  pub texts : AreNotesOf job.target (strips_of job) at job.view.labels flat.texts
