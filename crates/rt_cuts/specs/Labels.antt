-- Which strips a label may mean: a label is a point of a mask, and touches the rectangles that have it inside or on their border.
use Rattle.std.specs.Prelude.{◌≡◌, ℕ, ℤ, pos, ◌-ℤ◌, ◌≤ℤ◌, ◌⊎◌}
use Rattle.rt_cells.specs.Rectangles.{Rectangle}

-- the point is inside of the rectangle or on its border
pub record Touches (r : Rectangle) (x y : ℤ) : Type 0 where
  pub from_left : r.left ≤ℤ x
  pub to_right : x ≤ℤ r.right
  pub from_bottom : r.bottom ≤ℤ y
  pub to_top : y ≤ℤ r.top

-- the cell (u, v) is one of the four that have the point (x, y) as a corner
pub record IsAtPoint (x y u v : ℤ) : Type 0 where
  pub column : (u ≡ x -ℤ pos 1) ⊎ (u ≡ x)
  pub row : (v ≡ y -ℤ pos 1) ⊎ (v ≡ y)

-- the label at the point touches strip f of its mask
pub record TouchesStrip (member : ℕ → Type 0) (box : ℕ → Rectangle) (x y : ℤ) (f : ℕ) : Type 0 where
  pub strip : member f
  pub touches : Touches (box f) x y
