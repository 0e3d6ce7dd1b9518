-- Rectangles as the cells that they hold, and the turns of a reference.
use Rattle.std.specs.Prelude.{ℕ, suc, zero, ◌-◌, ◌^◌, ℤ, pos, negsuc, neg_ℤ, ◌≤ℤ◌, Bool, true, false}
use Rattle.rt_cells.specs.Rectangles.{Rectangle}
use Rattle.rt_base.specs.declared.plane.Rect.{Rect}
use Rattle.rt_base.specs.declared.plane.Orient.{Orient}

-- a coordinate that is handed in: the magnitude is at most 2^61, so that sums and differences of two fit an i64
pub record IsCoordinate (z : ℤ) : Type 0 where
  pub low : negsuc (2 ^ 61 - 1) ≤ℤ z
  pub high : z ≤ℤ pos (2 ^ 61)

-- a side of a rectangle: the magnitude is at most 2^62 - 1, so that a difference of two fits an i64
pub record IsSide (z : ℤ) : Type 0 where
  pub low : negsuc (2 ^ 62 - 2) ≤ℤ z
  pub high : z ≤ℤ pos (2 ^ 62 - 1)

-- both coordinates of a point
pub record AreCoordinates (p : ℤ × ℤ) : Type 0 where
  pub across : IsCoordinate p.0
  pub upwards : IsCoordinate p.1

-- the rectangle as a set of cells
abbrev pub area : Rect → Rectangle
area r = record { left = r.x1; right = r.x2; bottom = r.y1; top = r.y2 }

-- reflected about the x axis, or not
abbrev pub reflected : Bool → ℤ × ℤ → ℤ × ℤ
reflected true p = (p.0, neg_ℤ p.1)
reflected false p = p

-- turned counterclockwise about the origin by a quarter
abbrev pub quarter_turned : ℤ × ℤ → ℤ × ℤ
quarter_turned p = (neg_ℤ p.1, p.0)

-- turned by a number of quarters
abbrev pub turned_by : ℕ → ℤ × ℤ → ℤ × ℤ
turned_by zero p = p
turned_by (suc n) p = quarter_turned (turned_by n p)

-- the reflection first, then the quarters
abbrev pub turned : Orient → ℤ × ℤ → ℤ × ℤ
turned o p = turned_by o.quarters (reflected o.reflect p)
