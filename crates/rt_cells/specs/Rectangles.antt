-- Rectangles of cells, and what a list of them covers.
use Rattle.std.specs.Prelude.{ℤ, ◌*ℤ◌, ◌<ℤ◌, List, Contains}
use Rattle.rt_cells.specs.Line.{Within, gap_of}
use Rattle.rt_cells.specs.Cells.{AreNext}

-- the cells from the left column up to, and without, the right one, and from the bottom row up to, and without, the top one
pub record Rectangle : Type 0 where
  pub left : ℤ
  pub right : ℤ
  pub bottom : ℤ
  pub top : ℤ

-- the rectangle has a cell
pub record IsNonempty (r : Rectangle) : Type 0 where
  pub across : r.left <ℤ r.right
  pub upwards : r.bottom <ℤ r.top

-- the cell lies in the rectangle
pub record Holds (r : Rectangle) (x y : ℤ) : Type 0 where
  pub column : Within r.left r.right x
  pub row : Within r.bottom r.top y

-- one of the rectangles holds the cell
abbrev pub Covers : List Rectangle → ℤ → ℤ → Type 0
Covers rectangles x y = (r : Rectangle) × Contains rectangles r × Holds r x y

-- the rectangles share a cell, or cells that share a side
abbrev pub ShareCellOrSide : Rectangle → Rectangle → Type 0
ShareCellOrSide a b = (x : ℤ) × (y : ℤ) × (u : ℤ) × (v : ℤ) × Holds a x y × Holds b u v × AreNext x y u v

-- how many columns, and how many rows, lie between two rectangles
abbrev pub columns_between : Rectangle → Rectangle → ℤ
columns_between a b = gap_of a.left a.right b.left b.right

abbrev pub rows_between : Rectangle → Rectangle → ℤ
rows_between a b = gap_of a.bottom a.top b.bottom b.top

-- the same rectangle on a grid that is finer by a whole number
abbrev pub scaled : ℤ → Rectangle → Rectangle
scaled grid r = record { left = grid *ℤ r.left; right = grid *ℤ r.right; bottom = grid *ℤ r.bottom; top = grid *ℤ r.top }
