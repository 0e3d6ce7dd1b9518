-- The space rule of a mask, and what shows that it is broken.
use Rattle.std.specs.Prelude.{◌≡◌, ℤ, pos, ◌+ℤ◌, ◌-ℤ◌, ◌≤ℤ◌, ◌<ℤ◌, ◌⊎◌}
use Rattle.std.specs.Int.{int_max}
use Rattle.rt_cells.specs.Line.{IsGap, between}
use Rattle.rt_cells.specs.Cells.{row_of, transposed, Joined, MeetAtCornerAlone}

-- every gap between two runs of one row has at least s cells
abbrev pub KeepsGapsAlongRows : ℤ → (ℤ → ℤ → Type 0) → Type 0
KeepsGapsAlongRows s cells = (y low high : ℤ) → IsGap (row_of cells y) low high → s ≤ℤ (high -ℤ low)

-- two covered cells are of one piece, or s apart across, or s apart upwards
abbrev pub KeepsPiecesApart : ℤ → (ℤ → ℤ → Type 0) → Type 0
KeepsPiecesApart s cells = (x y u v : ℤ) → cells x y → cells u v
    → Joined cells x y u v ⊎ ((s ≤ℤ between x u) ⊎ (s ≤ℤ between y v))

-- the space rule
pub record KeepsSpace (s : ℤ) (cells : ℤ → ℤ → Type 0) : Type 0 where
  pub rows : KeepsGapsAlongRows s cells
  pub columns : KeepsGapsAlongRows s (transposed cells)
  pub pieces : KeepsPiecesApart s cells
  pub corners : (x y u v : ℤ) → ¬ MeetAtCornerAlone cells x y u v

-- the cells (x, y) and (u, v) are the ends of a gap of a row of fewer than s cells: the covered cells next to it
pub record IsNarrowGap (s : ℤ) (cells : ℤ → ℤ → Type 0) (x y u v found : ℤ) : Type 0 where
  pub one_row : v ≡ y
  pub gap : IsGap (row_of cells y) (x +ℤ pos 1) u
  pub cells_found : found ≡ (u -ℤ (x +ℤ pos 1))
  pub short : found <ℤ s

-- the cells (x, y) and (u, v) are of different pieces and less than s apart on both axes
pub record AreNearPieces (s : ℤ) (cells : ℤ → ℤ → Type 0) (x y u v found : ℤ) : Type 0 where
  pub first : cells x y
  pub second : cells u v
  pub different : ¬ Joined cells x y u v
  pub gap_found : found ≡ int_max (between x u) (between y v)
  pub short : found <ℤ s

-- the cells (x, y) and (u, v) meet at a corner alone
pub record IsCornerContact (s : ℤ) (cells : ℤ → ℤ → Type 0) (x y u v found : ℤ) : Type 0 where
  pub contact : MeetAtCornerAlone cells x y u v
  pub none_found : found ≡ pos 0
  pub short : found <ℤ s

-- the cells (x, y) and (u, v) and the number found show that the space rule s is broken
abbrev pub SpaceBreach : ℤ → (ℤ → ℤ → Type 0) → ℤ → ℤ → ℤ → ℤ → ℤ → Type 0
SpaceBreach s cells x y u v found =
    (IsNarrowGap s cells x y u v found ⊎ IsNarrowGap s (transposed cells) y x v u found)
    ⊎ (AreNearPieces s cells x y u v found ⊎ IsCornerContact s cells x y u v found)
