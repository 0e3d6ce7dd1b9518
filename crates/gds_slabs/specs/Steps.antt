-- Placing by a step: a turn about the origin, then a shift. A cell goes where its unit square goes.
use Rattle.std.specs.Prelude.{◌≡◌, ℕ, zero, suc, ℤ, pos, ◌^◌, neg_ℤ, ◌+ℤ◌, ◌-ℤ◌, ◌≤ℤ◌, Bool, true, false, List, map, All}
use Rattle.std.specs.Int.{int_min, int_max}
use Rattle.rt_cells.specs.Rectangles.{Rectangle, Holds}
use Rattle.rt_base.specs.declared.plane.Rect.{Rect}
use Rattle.rt_base.specs.Plane.{area, turned}
use Rattle.gds_slabs.specs.declared.step.Step.{Step}

-- a point shifted by a step's shift
abbrev pub shifted : Step → ℤ × ℤ → ℤ × ℤ
shifted step p = (p.0 +ℤ step.dx, p.1 +ℤ step.dy)

-- where a step moves a point
abbrev pub moved_point : Step → ℤ × ℤ → ℤ × ℤ
moved_point step p = shifted step (turned step.orient p)

-- a cell reflected about the x axis, or not
abbrev pub cell_reflected : Bool → ℤ × ℤ → ℤ × ℤ
cell_reflected true c = (c.0, neg_ℤ c.1 -ℤ pos 1)
cell_reflected false c = c

-- a cell turned counterclockwise about the origin by a number of quarters
abbrev pub cell_turned : ℕ → ℤ × ℤ → ℤ × ℤ
cell_turned zero c = c
cell_turned (suc n) c = let d = cell_turned n c in (neg_ℤ d.1 -ℤ pos 1, d.0)

-- where a step moves a cell
abbrev pub moved_cell : Step → ℤ × ℤ → ℤ × ℤ
moved_cell step c = shifted step (cell_turned step.orient.quarters (cell_reflected step.orient.reflect c))

-- a rectangle reflected about the x axis, or not
abbrev pub rect_reflected : Bool → Rectangle → Rectangle
rect_reflected true r = record { left = r.left; right = r.right; bottom = neg_ℤ r.top; top = neg_ℤ r.bottom }
rect_reflected false r = r

-- a rectangle turned counterclockwise about the origin by a quarter
abbrev pub rect_quarter : Rectangle → Rectangle
rect_quarter r = record { left = neg_ℤ r.top; right = neg_ℤ r.bottom; bottom = r.left; top = r.right }

-- a rectangle turned by a number of quarters
abbrev pub rect_turned : ℕ → Rectangle → Rectangle
rect_turned zero r = r
rect_turned (suc n) r = rect_quarter (rect_turned n r)

-- a rectangle shifted by a step's shift
abbrev pub rect_shifted : Step → Rectangle → Rectangle
rect_shifted step r = record {
  left = r.left +ℤ step.dx;
  right = r.right +ℤ step.dx;
  bottom = r.bottom +ℤ step.dy;
  top = r.top +ℤ step.dy;
}

-- where a step moves a rectangle
abbrev pub moved_rect : Step → Rectangle → Rectangle
moved_rect step r = rect_shifted step (rect_turned step.orient.quarters (rect_reflected step.orient.reflect r))

-- the cell is where a step moves a cell of the rectangle
abbrev pub IsMovedFrom : Step → Rectangle → ℤ → ℤ → Type 0
IsMovedFrom step r u v = (x : ℤ) × (y : ℤ) × Holds r x y × (moved_cell step (x, y) ≡ (u, v))

-- the sides are at most so far from the axes
pub record IsWithin (reach : ℤ) (r : Rectangle) : Type 0 where
  pub left : neg_ℤ reach ≤ℤ r.left
  pub right : r.right ≤ℤ reach
  pub bottom : neg_ℤ reach ≤ℤ r.bottom
  pub top : r.top ≤ℤ reach

-- the number is no farther from 0 than 2^32
pub record IsInReach (z : ℤ) : Type 0 where
  pub low : neg_ℤ (pos (2 ^ 32)) ≤ℤ z
  pub high : z ≤ℤ pos (2 ^ 32)

-- the rectangles lie no farther from the axes than 2^32
pub record AreInReach (rects : List Rect) : Type 0 where
  pub near : All (IsWithin (pos (2 ^ 32))) (map area rects)

-- the step shifts by so much at most
pub record ShiftsWithin (reach : ℤ) (step : Step) : Type 0 where
  pub left : neg_ℤ reach ≤ℤ step.dx
  pub right : step.dx ≤ℤ reach
  pub down : neg_ℤ reach ≤ℤ step.dy
  pub up : step.dy ≤ℤ reach

-- two points are opposite corners of the rectangle
pub record AreCorners (p q : ℤ × ℤ) (r : Rectangle) : Type 0 where
  pub left : r.left ≡ int_min p.0 q.0
  pub right : r.right ≡ int_max p.0 q.0
  pub bottom : r.bottom ≡ int_min p.1 q.1
  pub top : r.top ≡ int_max p.1 q.1
