-- Pieces of cells that are rectangles, and pieces that lie in other cells.
use Rattle.std.specs.Prelude.{ℤ}
use Rattle.rt_cells.specs.Cells.{ShareSide, Joined}
use Rattle.rt_cells.specs.Rectangles.{Rectangle, IsNonempty, Holds}

-- the rectangle is a piece of the cells: all its cells are among them, and none of them shares a side with it from outside
pub record IsPiece (cells : ℤ → ℤ → Type 0) (r : Rectangle) : Type 0 where
  pub nonempty : IsNonempty r
  pub inside : (x y : ℤ) → Holds r x y → cells x y
  pub alone : (x y u v : ℤ) → Holds r x y → ShareSide x y u v → cells u v → Holds r u v

-- the rectangle is the piece of the cell
pub record IsPieceAt (cells : ℤ → ℤ → Type 0) (x y : ℤ) (r : Rectangle) : Type 0 where
  pub piece : IsPiece cells r
  pub holds : Holds r x y

-- every piece is a rectangle
abbrev pub HasRectangles : (ℤ → ℤ → Type 0) → Type 0
HasRectangles cells = (x y : ℤ) → cells x y → (r : Rectangle) × IsPieceAt cells x y r

-- the piece of the cell lies in the others
pub record LiesIn (cells others : ℤ → ℤ → Type 0) (x y : ℤ) : Type 0 where
  pub cell : cells x y
  pub lies : (u v : ℤ) → Joined cells x y u v → others u v
