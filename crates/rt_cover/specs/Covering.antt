-- Whether cells cover rectangles, and a cell of each that they leave bare.
use Rattle.std.specs.Prelude.{◌≡◌, ℕ, ◌<◌, ℤ, List, length, slice_index_or, Option, None, MatchOption}
use Rattle.rt_cells.specs.Rectangles.{Rectangle, Holds}
use Rattle.rt_base.specs.declared.plane.Rect.{Rect}
use Rattle.rt_base.specs.declared.plane.Cell.{Cell}
use Rattle.rt_base.specs.Plane.{area}

-- the cells cover the rectangle whole
pub record IsWhole (cells : ℤ → ℤ → Type 0) (r : Rectangle) : Type 0 where
  pub covered : (x y : ℤ) → Holds r x y → cells x y

-- the cell lies in the rectangle, and the cells leave it bare
pub record IsMissing (cells : ℤ → ℤ → Type 0) (r : Rectangle) (p : Cell) : Type 0 where
  pub inside : Holds r p.x p.y
  pub bare : ¬ cells p.x p.y

-- what is said of the rectangle of a number
abbrev pub found_at : List (Option Cell) → ℕ → Option Cell
found_at found t = slice_index_or found t None

-- for each rectangle in order a cell of it that is bare, or none where the cells cover it whole
pub record AreMissing (cells : ℤ → ℤ → Type 0) (areas : List Rect) (found : List (Option Cell)) : Type 0 where
  pub counted : length found ≡ length areas
  pub each : (t : ℕ) (d : Rect) → t < length areas
      → MatchOption (found_at found t) (IsWhole cells (area (slice_index_or areas t d))) (IsMissing cells (area (slice_index_or areas t d)))

-- so many places with no cell
pub record AreNone (count : ℕ) (found : List (Option Cell)) : Type 0 where
  pub counted : length found ≡ count
  pub no_cell : (t : ℕ) → found_at found t ≡ None
