-- Cells of the plane: the cell x y is the unit square whose lower left corner is (x, y).
-- What a mask covers is a fact about x and y.
use Rattle.std.specs.Prelude.{◌≡◌, ℤ, pos, ◌+ℤ◌, ◌⊎◌}

-- the row at a height: the columns that are covered there
abbrev pub row_of : (ℤ → ℤ → Type 0) → ℤ → ℤ → Type 0
row_of cells y x = cells x y

-- the same cells with columns and rows exchanged, so that its rows are the columns
abbrev pub transposed : (ℤ → ℤ → Type 0) → ℤ → ℤ → Type 0
transposed cells x y = cells y x

-- the two places are next to each other on a line
abbrev pub Adjacent : ℤ → ℤ → Type 0
Adjacent p q = (q ≡ p +ℤ pos 1) ⊎ (p ≡ q +ℤ pos 1)

-- two cells share a side
abbrev pub ShareSide : ℤ → ℤ → ℤ → ℤ → Type 0
ShareSide x y u v = (Adjacent x u × (v ≡ y)) ⊎ ((u ≡ x) × Adjacent y v)

-- two cells are one, or share a side
abbrev pub AreNext : ℤ → ℤ → ℤ → ℤ → Type 0
AreNext x y u v = ((u ≡ x) × (v ≡ y)) ⊎ ShareSide x y u v

-- two covered cells are joined: a walk over covered cells that share sides leads from one to the other.
-- A piece is a class of joined cells.
pub data Joined (cells : ℤ → ℤ → Type 0) (x y : ℤ) : ℤ → ℤ → Type 0 where
  here : cells x y → Joined cells x y x y
  onward : (u v p q : ℤ) → Joined cells x y u v → ShareSide u v p q → cells p q → Joined cells x y p q

-- two covered cells meet at a corner alone: they are diagonal neighbours, and the other two cells
-- of that square aren't covered
pub record MeetAtCornerAlone (cells : ℤ → ℤ → Type 0) (x y u v : ℤ) : Type 0 where
  pub first : cells x y
  pub second : cells u v
  pub columns : Adjacent x u
  pub rows : Adjacent y v
  pub beside_first : ¬ cells u y
  pub beside_second : ¬ cells x v
