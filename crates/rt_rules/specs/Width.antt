-- The width rule of a mask, and what shows that it is broken.
use Rattle.std.specs.Prelude.{◌≡◌, ℤ, pos, ◌+ℤ◌, ◌-ℤ◌, ◌≤ℤ◌, ◌<ℤ◌, ◌⊎◌}
use Rattle.std.specs.Int.{int_max, int_min}
use Rattle.rt_cells.specs.Line.{IsRun}
use Rattle.rt_cells.specs.Cells.{row_of, transposed}

-- along rows: every run has at least w cells, and two runs of adjacent rows that touch share at least w columns
pub record KeepsWidthAlongRows (w : ℤ) (cells : ℤ → ℤ → Type 0) : Type 0 where
  pub runs : (y low high : ℤ) → IsRun (row_of cells y) low high → w ≤ℤ (high -ℤ low)
  pub shared : (y low high low' high' : ℤ) → IsRun (row_of cells y) low high → IsRun (row_of cells (y +ℤ pos 1)) low' high'
      → int_max low low' <ℤ int_min high high' → w ≤ℤ (int_min high high' -ℤ int_max low low')

-- the width rule, along rows and along columns
pub record KeepsWidth (w : ℤ) (cells : ℤ → ℤ → Type 0) : Type 0 where
  pub rows : KeepsWidthAlongRows w cells
  pub columns : KeepsWidthAlongRows w (transposed cells)

-- the cells (x, y) and (u, v) are the ends of a run of a row with fewer than w cells
pub record IsShortRun (w : ℤ) (cells : ℤ → ℤ → Type 0) (x y u v found : ℤ) : Type 0 where
  pub one_row : v ≡ y
  pub run : IsRun (row_of cells y) x (u +ℤ pos 1)
  pub cells_found : found ≡ ((u +ℤ pos 1) -ℤ x)
  pub short : found <ℤ w

-- the cells (x, y) and (u, v) are the ends of the part that two touching runs of adjacent rows share, fewer than w columns
pub record IsShortContact (w : ℤ) (cells : ℤ → ℤ → Type 0) (x y u v found : ℤ) : Type 0 where
  pub row : ℤ
  pub low : ℤ
  pub high : ℤ
  pub low' : ℤ
  pub high' : ℤ
  pub run : IsRun (row_of cells row) low high
  pub next_run : IsRun (row_of cells (row +ℤ pos 1)) low' high'
  pub touch : int_max low low' <ℤ int_min high high'
  pub first_end : x ≡ int_max low low'
  pub last_end : (u +ℤ pos 1) ≡ int_min high high'
  pub on_either_row : (y ≡ row) ⊎ (y ≡ row +ℤ pos 1)
  pub one_row : v ≡ y
  pub columns_found : found ≡ ((u +ℤ pos 1) -ℤ x)
  pub short : found <ℤ w

abbrev pub WidthBreachAlongRows : ℤ → (ℤ → ℤ → Type 0) → ℤ → ℤ → ℤ → ℤ → ℤ → Type 0
WidthBreachAlongRows w cells x y u v found = IsShortRun w cells x y u v found ⊎ IsShortContact w cells x y u v found

-- the cells (x, y) and (u, v) and the number found show that the width rule w is broken
abbrev pub WidthBreach : ℤ → (ℤ → ℤ → Type 0) → ℤ → ℤ → ℤ → ℤ → ℤ → Type 0
WidthBreach w cells x y u v found =
    WidthBreachAlongRows w cells x y u v found ⊎ WidthBreachAlongRows w (transposed cells) y x v u found
