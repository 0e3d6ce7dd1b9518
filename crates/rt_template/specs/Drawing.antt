-- The drawing of positions.
use Rattle.std.specs.Prelude.{ℕ, suc, ℤ, ◌*ℤ◌, List, [], ◌∷◌}
use Rattle.rt_cells.specs.Rectangles.{Rectangle}
use Rattle.rt_rows.specs.declared.row.Var.{Var}
use Rattle.rt_rows.specs.declared.row.Var.TheVariants.{L, R, B, T}
use Rattle.rt_strips.specs.Placed.{Placed}

-- the rectangle of strip i at the positions, on a grid of so many units a step
abbrev pub drawn_area : ℤ → (Var → ℤ) → ℕ → Rectangle
drawn_area grid at i = record { left = grid *ℤ at (L i); right = grid *ℤ at (R i); bottom = grid *ℤ at (B i); top = grid *ℤ at (T i) }

-- the strips from number i on, each at its position
abbrev pub drawn_from : ℤ → (Var → ℤ) → ℕ → List Placed → List Placed
drawn_from grid at i [] = []
drawn_from grid at i (strip ∷ strips) = record { mask = strip.mask; area = drawn_area grid at i } ∷ drawn_from grid at (suc i) strips

-- the drawing: every strip, in order, at its position times grid
abbrev pub drawn : ℤ → (Var → ℤ) → List Placed → List Placed
drawn grid at strips = drawn_from grid at 0 strips
