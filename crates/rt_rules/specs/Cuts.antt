-- The rules of cuts and of two masks, size, enclosure and distance, and what shows that one is broken.
use Rattle.std.specs.Prelude.{◌≡◌, ◌≢◌, ℕ, ℤ, pos, ◌+ℤ◌, ◌-ℤ◌, ◌≤ℤ◌, ◌<ℤ◌, ◌⊎◌}
use Rattle.std.specs.Int.{int_max}
use Rattle.rt_cells.specs.Line.{between}
use Rattle.rt_cells.specs.Rectangles.{Rectangle}
use Rattle.rt_tech.specs.Demands.{IsAround}
use Rattle.rt_layout.specs.declared.layout.Layout.{Layout}
use Rattle.rt_layout.specs.Covering.{MaskCovers}
use Rattle.rt_rules.specs.Pieces.{IsPiece, IsPieceAt}

-- a square of so many columns and rows
pub record IsSquare (size : ℤ) (r : Rectangle) : Type 0 where
  pub across : (r.left +ℤ size) ≡ r.right
  pub upwards : (r.bottom +ℤ size) ≡ r.top

-- the size rule: every piece is a square of the size
abbrev pub KeepsSize : ℤ → (ℤ → ℤ → Type 0) → Type 0
KeepsSize size cells = (x y : ℤ) → cells x y → (r : Rectangle) × IsSquare size r × IsPieceAt cells x y r

-- the cells (x, y) and (u, v) are the lower left and the upper right one of a piece, of which an extent isn't the size
pub record SizeBreach (size : ℤ) (cells : ℤ → ℤ → Type 0) (x y u v found : ℤ) : Type 0 where
  pub r : Rectangle
  pub piece : IsPiece cells r
  pub left : x ≡ r.left
  pub bottom : y ≡ r.bottom
  pub right : (u +ℤ pos 1) ≡ r.right
  pub top : (v +ℤ pos 1) ≡ r.top
  pub extent_found : (found ≡ r.right -ℤ r.left) ⊎ (found ≡ r.top -ℤ r.bottom)
  pub another : found ≢ size

-- the cell (u, v) lies at most so many columns and so many rows from (x, y)
pub record IsWithin (reach x y u v : ℤ) : Type 0 where
  pub columns : IsAround reach u x
  pub rows : IsAround reach v y

-- the rule of enclosure: the cells, grown by a number on all sides, lie in a mask
abbrev pub KeepsEnclosed : ℤ → (cells mask : ℤ → ℤ → Type 0) → Type 0
KeepsEnclosed number cells mask = (x y u v : ℤ) → cells x y → IsWithin number x y u v → mask u v

-- the cell (u, v) is within the number of the cell (x, y), and the mask doesn't cover it
pub record EnclosureBreach (number : ℤ) (cells mask : ℤ → ℤ → Type 0) (x y u v found : ℤ) : Type 0 where
  pub first : cells x y
  pub within : IsWithin number x y u v
  pub missing : ¬ mask u v
  pub gap_found : found ≡ int_max (between x u) (between y v)
  pub short : found <ℤ number

-- the rule of distance: a cell of the one and a cell of the other have a gap of a number at least across or upwards
abbrev pub KeepsApart : ℤ → (cells others : ℤ → ℤ → Type 0) → Type 0
KeepsApart number cells others = (x y u v : ℤ) → cells x y → others u v → (number ≤ℤ between x u) ⊎ (number ≤ℤ between y v)

-- the cells (x, y) of the one and (u, v) of the other have smaller gaps on both axes
pub record ApartBreach (number : ℤ) (cells others : ℤ → ℤ → Type 0) (x y u v found : ℤ) : Type 0 where
  pub first : cells x y
  pub second : others u v
  pub gap_found : found ≡ int_max (between x u) (between y v)
  pub short : found <ℤ number

-- what a breach of one of these rules shows of a layout's masks isn't so where the rule is kept
abbrev pub SizeBreachBreaks : Type 0
SizeBreachBreaks = (layout : Layout) (m : ℕ) (size x y u v found : ℤ) → SizeBreach size (MaskCovers layout m) x y u v found
    → KeepsSize size (MaskCovers layout m) → ⊥

abbrev pub EnclosureBreachBreaks : Type 0
EnclosureBreachBreaks = (layout : Layout) (m n : ℕ) (number x y u v found : ℤ) → EnclosureBreach number (MaskCovers layout m) (MaskCovers layout n) x y u v found
    → KeepsEnclosed number (MaskCovers layout m) (MaskCovers layout n) → ⊥

abbrev pub ApartBreachBreaks : Type 0
ApartBreachBreaks = (layout : Layout) (m n : ℕ) (number x y u v found : ℤ) → ApartBreach number (MaskCovers layout m) (MaskCovers layout n) x y u v found
    → KeepsApart number (MaskCovers layout m) (MaskCovers layout n) → ⊥
