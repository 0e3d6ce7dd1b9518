-- Rows as equations: each row has a column of its own, which is what its terms have beyond its least value.
use Rattle.std.specs.Prelude.{◌≡◌, ℕ, suc, ◌+◌, ◌*◌, ◌<◌, ℤ, pos, ◌+ℤ◌, ◌*ℤ◌, List, [], length, slice_index_or}
use Rattle.rt_rows.specs.declared.row.Var.{Var}
use Rattle.rt_rows.specs.declared.row.Var.TheVariants.{L, R, B, T, Width, Height, Axis}
use Rattle.rt_rows.specs.declared.row.Row.{Row}
use Rattle.rt_rows.specs.Rows.{sum_of_terms}

-- rows over the strips whose numbers are below a number
pub record System : Type 0 where
  pub strips : ℕ
  pub rows : List Row

-- the column of a variable: the sides of strip 0, those of strip 1, and so on, then the extent, then the mirror axis
abbrev pub column_of : ℕ → Var → ℕ
column_of strips (L i) = 2 * i
column_of strips (R i) = 2 * i + 1
column_of strips (B i) = 2 * i
column_of strips (T i) = 2 * i + 1
column_of strips Width = 2 * strips
column_of strips Height = 2 * strips
column_of strips Axis = 2 * strips + 1

-- how many columns variables have
abbrev pub variables_of : System → ℕ
variables_of system = 2 * system.strips + 2

-- the rows' own columns stand behind those of the variables
abbrev pub own_column : System → ℕ → ℕ
own_column system d = variables_of system + d

-- all columns
abbrev pub columns_of : System → ℕ
columns_of system = variables_of system + length system.rows

-- a row that asks for nothing
abbrev pub no_row : Row
no_row = record { terms = []; least = pos 0 }

abbrev pub row_at : System → ℕ → Row
row_at system d = slice_index_or system.rows d no_row

-- the row's terms are worth the least value and what the row's own column adds to it
pub record IsSplit (system : System) (d : ℕ) (point : ℕ → ℤ) : Type 0 where
  pub equal : point (suc (own_column system d)) +ℤ (row_at system d).least *ℤ point 0
      ≡ sum_of_terms (λ var. point (suc (column_of system.strips var))) (row_at system d).terms

-- the point is a solution of each row; where its number 0 is 0 it's a direction in which solutions go on
pub record IsSolution (system : System) (point : ℕ → ℤ) : Type 0 where
  pub each : (d : ℕ) → d < length system.rows → IsSplit system d point
