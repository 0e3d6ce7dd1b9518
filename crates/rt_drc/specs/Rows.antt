-- The strips of masks along rows, and along columns; what a witness shows of them.
use Rattle.std.specs.Prelude.{ℕ, ◌<◌, ◌^◌, ℤ, List, length, map}
use Rattle.rt_cells.specs.Cells.{transposed}
use Rattle.rt_cells.specs.Rectangles.{Rectangle}
use Rattle.rt_rules.specs.Width.{WidthBreachAlongRows, WidthBreach}
use Rattle.rt_rules.specs.Space.{SpaceBreach}
use Rattle.rt_strips.specs.declared.contact.Seam.{Seam}
use Rattle.rt_strips.specs.declared.listing.Strip.{Strip}
use Rattle.rt_strips.specs.Placed.{placed, covered_by}
use Rattle.rt_strips.specs.StripsOf.{AreStripsOf}
use Rattle.rt_strips.specs.Seams.{AreSeamsOf}
use Rattle.rt_drc.specs.declared.rows.Witness.{Witness}

-- what a mask covers by these strips
abbrev pub cells_of : List Strip → ℕ → ℤ → ℤ → Type 0
cells_of strips m = covered_by m (map placed strips)

-- what it covers with columns and rows exchanged
abbrev pub turned_cells_of : List Strip → ℕ → ℤ → ℤ → Type 0
turned_cells_of strips m = transposed (cells_of strips m)

-- the rectangle with columns and rows exchanged
abbrev pub exchanged : Rectangle → Rectangle
exchanged r = record { left = r.bottom; right = r.top; bottom = r.left; top = r.right }

-- the strips of the cells that so many masks cover, few enough to be numbered by 32 bits, with all their seams
pub record AreRowsOf (cells : ℕ → ℤ → ℤ → Type 0) (masks : ℕ) (strips : List Strip) (seams : List Seam) : Type 0 where
  pub few : length strips < 2 ^ 32
  pub strips_are : AreStripsOf cells masks (map placed strips)
  pub seams_are : AreSeamsOf (map placed strips) seams

-- the witness shows that the cells break the width rule w along rows
abbrev pub ShowsWidthAlongRows : ℤ → (ℤ → ℤ → Type 0) → Witness → Type 0
ShowsWidthAlongRows w cells witness = WidthBreachAlongRows w cells witness.p.x witness.p.y witness.q.x witness.q.y witness.found

-- the witness shows that the cells break the width rule w
abbrev pub ShowsWidth : ℤ → (ℤ → ℤ → Type 0) → Witness → Type 0
ShowsWidth w cells witness = WidthBreach w cells witness.p.x witness.p.y witness.q.x witness.q.y witness.found

-- the witness shows that the cells break the space rule s
abbrev pub ShowsSpace : ℤ → (ℤ → ℤ → Type 0) → Witness → Type 0
ShowsSpace s cells witness = SpaceBreach s cells witness.p.x witness.p.y witness.q.x witness.q.y witness.found
