-- The rectangles that a path becomes.
use Rattle.std.specs.Prelude.{◌≡◌, ◌≢◌, ◌-◌, ◌/◌, ◌%◌, ◌<◌, ℤ, pos, ◌+ℤ◌, ◌-ℤ◌, Bool, cond, not, ◌&&◌, List, [], ◌++◌, length, map, unsigned_abs, Contains, ◌⊎◌, slice_get, slice_range}
use Rattle.std.specs.Int.{int_min, int_max}
use Rattle.std.specs.List.{filter}
use Rattle.std.specs.Option.{option_to_list}
use Rattle.std.specs.Ordering.{int_eq}
use Rattle.rt_base.specs.declared.plane.Point.{Point}
use Rattle.rt_cells.specs.Rectangles.{Rectangle}
use Rattle.gds_slabs.specs.Polygon.{sides}
use Rattle.gds_slabs.specs.declared.path.PathEnd.{PathEnd}
use Rattle.gds_slabs.specs.declared.path.PathEnd.TheVariants.{Flush, Square}

-- a path's width, whose magnitude counts, is even and isn't 0
pub record IsPathWidth (width : ℤ) : Type 0 where
  pub some : 0 < unsigned_abs width
  pub even : unsigned_abs width % 2 ≡ 0

-- half of the width
abbrev pub half_of : ℤ → ℤ
half_of width = pos (unsigned_abs width / 2)

-- the square of the width at the point
abbrev pub square : ℤ → Point → Rectangle
square half p = record { left = p.x -ℤ half; right = p.x +ℤ half; bottom = p.y -ℤ half; top = p.y +ℤ half }

-- the rectangle of the width over a segment along a row
abbrev pub row_segment : ℤ → Point × Point → Rectangle
row_segment half (p, q) = record { left = int_min p.x q.x; right = int_max p.x q.x; bottom = p.y -ℤ half; top = p.y +ℤ half }

-- the rectangle of the width over a segment along a column
abbrev pub column_segment : ℤ → Point × Point → Rectangle
column_segment half (p, q) = record { left = p.x -ℤ half; right = p.x +ℤ half; bottom = int_min p.y q.y; top = int_max p.y q.y }

-- the rectangle of the width over the segment
abbrev pub segment : ℤ → Point × Point → Rectangle
segment half (p, q) = cond (int_eq p.y q.y) (row_segment half (p, q)) (column_segment half (p, q))

-- the ends of the segment differ
abbrev pub has_length : Point × Point → Bool
has_length (p, q) = not (int_eq p.x q.x && int_eq p.y q.y)

-- the points but for the first and the last
abbrev pub inner : List Point → List Point
inner points = slice_range points 1 (length points - 1)

-- the points at which the end adds a square: none, or the first and the last
abbrev pub squared_ends : PathEnd → List Point → List Point
squared_ends Flush points = []
squared_ends Square points = option_to_list (slice_get points 0) ++ option_to_list (slice_get points (length points - 1))

-- the rectangles of a path: those of the segments, then the squares at the inner points, then those at the ends
abbrev pub path_areas : ℤ → PathEnd → List Point → List Rectangle
path_areas half end points =
    map (segment half) (filter has_length (sides points)) ++ map (square half) (inner points) ++ map (square half) (squared_ends end points)

-- a rectangle of a path: that of a segment whose ends differ, or the square at an inner point or at an end that adds one
abbrev pub PathArea : ℤ → PathEnd → List Point → Rectangle → Type 0
PathArea half end points r =
    ((side : Point × Point) × Contains (sides points) side × (side.0 ≢ side.1) × (segment half side ≡ r))
    ⊎ ((p : Point) × (Contains (inner points) p ⊎ Contains (squared_ends end points) p) × (square half p ≡ r))
