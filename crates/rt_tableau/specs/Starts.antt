-- The tableau that rows begin with: each row's own column is basic.
use Rattle.std.specs.Prelude.{◌≡◌, ℕ, zero, suc, ◌+◌, ◌<◌, max, ℤ, pos, neg_ℤ, List, [], ◌∷◌, ◌++◌, length, slice_index_or, slice_set, replicate, Option, Some, None}
use Rattle.rt_rows.specs.declared.row.Var.{Var}
use Rattle.rt_rows.specs.declared.row.Var.TheVariants.{L, R, B, T, Width, Height, Axis}
use Rattle.rt_rows.specs.declared.row.Term.{Term}
use Rattle.rt_rows.specs.declared.row.Row.{Row}
use Rattle.rt_rows.specs.Known.{IsSmall}
use Rattle.rt_solved.specs.Systems.{System, column_of, variables_of, no_row}
use Rattle.rt_tableau.specs.States.{State}

-- how many strips there are at least where the variable is one of a strip's
abbrev pub strips_with : Var → ℕ
strips_with (L i) = i + 1
strips_with (R i) = i + 1
strips_with (B i) = i + 1
strips_with (T i) = i + 1
strips_with Width = 0
strips_with Height = 0
strips_with Axis = 0

abbrev pub strips_of_term : Option Term → ℕ
strips_of_term None = 0
strips_of_term (Some term) = strips_with term.var

abbrev pub term_at : ℕ → Row → Option Term
term_at k row = slice_index_or row.terms k None

-- one more than the greatest strip that the row names
abbrev pub strips_of_row : Row → ℕ
strips_of_row row = max (max (strips_of_term (term_at 0 row)) (strips_of_term (term_at 1 row))) (strips_of_term (term_at 2 row))

-- one more than the greatest strip that a row names
abbrev pub strips_of : List Row → ℕ
strips_of [] = 0
strips_of (row ∷ rows) = max (strips_of_row row) (strips_of rows)

-- the system of the rows
abbrev pub system_of : List Row → System
system_of rows = record { strips = strips_of rows; rows = rows }

-- the variable has a column
pub record HasColumn (strips : ℕ) (var : Var) : Type 0 where
  pub below : strips_with var < strips + 1

-- each variable that the terms name has a column
abbrev pub HaveColumns : ℕ → List (Option Term) → Type 0
HaveColumns strips [] = Unit {0}
HaveColumns strips (None ∷ terms) = HaveColumns strips terms
HaveColumns strips (Some term ∷ terms) = HasColumn strips term.var × HaveColumns strips terms

-- columns in order from the first one
abbrev pub columns_from : ℕ → ℕ → List ℕ
columns_from first zero = []
columns_from first (suc count) = columns_from first count ++ (first + count) ∷ []

-- the state that rows begin with
abbrev pub start_of : List Row → Var → State
start_of rows goal = record { system = system_of rows; goal = goal; basis = columns_from (variables_of (system_of rows)) (length rows) }

-- the term's factor is small
abbrev pub IsSmallFactor : Option Term → Type 0
IsSmallFactor None = Unit {0}
IsSmallFactor (Some term) = IsSmall term.times

-- the terms speak of different columns
abbrev pub AreApart : ℕ → Option Term → Option Term → Type 0
AreApart strips None second = Unit {0}
AreApart strips (Some term) None = Unit {0}
AreApart strips (Some term) (Some other) = column_of strips term.var ≡ column_of strips other.var → ⊥

-- the row's numbers are small, and it names no column twice
pub record IsTableRow (strips : ℕ) (row : Row) : Type 0 where
  pub least : IsSmall row.least
  pub first : IsSmallFactor (term_at 0 row)
  pub second : IsSmallFactor (term_at 1 row)
  pub third : IsSmallFactor (term_at 2 row)
  pub first_second : AreApart strips (term_at 0 row) (term_at 1 row)
  pub first_third : AreApart strips (term_at 0 row) (term_at 2 row)
  pub second_third : AreApart strips (term_at 1 row) (term_at 2 row)

-- the numbers with a term's factor in its column, its sign turned
abbrev pub with_term : ℕ → List ℤ → Option Term → List ℤ
with_term strips numbers None = numbers
with_term strips numbers (Some term) = slice_set numbers (suc (column_of strips term.var)) (neg_ℤ term.times)

-- the numbers with the row's terms, its least value and its own column
abbrev pub with_row : ℕ → ℕ → List ℤ → Row → List ℤ
with_row strips own numbers row =
    slice_set (with_term strips (with_term strips (with_term strips (slice_set numbers 0 (neg_ℤ row.least)) (term_at 0 row)) (term_at 1 row)) (term_at 2 row)) (suc own) (pos 1)

-- the line of a row that begins with its own column basic
abbrev pub start_line : ℕ → ℕ → Row → List ℤ
start_line strips own row = with_row strips own (replicate (own + 2) (pos 0)) row

-- it's that line of a row of three terms
pub record IsStartLine (strips own : ℕ) (row : Row) (line : List ℤ) : Type 0 where
  pub is : line ≡ start_line strips own row
  pub three : length row.terms ≡ 3

-- the lines that rows begin with
pub record AreStarts (strips first : ℕ) (rows : List Row) (lines : List (List ℤ)) : Type 0 where
  pub one_each : length lines ≡ length rows
  pub each : (d : ℕ) → d < length rows → IsStartLine strips (first + d) (slice_index_or rows d no_row) (slice_index_or lines d [])
