-- Polygons as lists of points, and the cells that they cover.
use Rattle.std.specs.Prelude.{◌≡◌, ◌≢◌, ◌-◌, ◌%◌, ℤ, ◌&&◌, not, Bool, int_le, int_lt, List, [], ◌∷◌, length, slice_get, count_by, Contains}
use Rattle.std.specs.Int.{int_min, int_max}
use Rattle.std.specs.Ordering.{int_eq}
use Rattle.rt_base.specs.declared.plane.Point.{Point}

-- the sides of the line that goes on from p over the points
abbrev pub sides_from : Point → List Point → List (Point × Point)
sides_from p [] = []
sides_from p (q ∷ points) = (p, q) ∷ sides_from q points

-- the sides: each point with the one after it
abbrev pub sides : List Point → List (Point × Point)
sides [] = []
sides (p ∷ points) = sides_from p points

-- the side crosses the row of the cell, at the cell's column or left of it
abbrev pub crosses : ℤ → ℤ → Point × Point → Bool
crosses x y (p, q) = (int_eq p.x q.x && int_le p.x x) && (int_le (int_min p.y q.y) y && int_lt y (int_max p.y q.y))

-- the cell is inside: an odd number of sides cross its row up to its column
abbrev pub Inside : List Point → ℤ → ℤ → Type 0
Inside points x y = count_by (crosses x y) (sides points) % 2 ≡ 1

-- the last point is the first one
abbrev pub IsClosed : List Point → Type 0
IsClosed points = slice_get points (length points - 1) ≡ slice_get points 0

-- the side is neither along a row nor along a column
abbrev pub IsSlantedSide : Point × Point → Type 0
IsSlantedSide (p, q) = (p.x ≢ q.x) × (p.y ≢ q.y)

-- whether the side is slanted
abbrev pub slanted : Point × Point → Bool
slanted (p, q) = not (int_eq p.x q.x) && not (int_eq p.y q.y)

-- five points, of which the first and the third differ in both coordinates, and so do the second and the fourth: where the line is
-- closed and no side is slanted, it goes around a rectangle from corner to corner
abbrev pub GoesAround : List Point → Type 0
GoesAround (a ∷ b ∷ c ∷ d ∷ e ∷ []) = IsSlantedSide (a, c) × IsSlantedSide (b, d)
GoesAround points = ⊥

-- some side is slanted
abbrev pub IsSlanted : List Point → Type 0
IsSlanted points = (side : Point × Point) × Contains (sides points) side × IsSlantedSide side
