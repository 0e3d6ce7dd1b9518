-- Tables: a line for each row, solved for the columns of a basis.
use Rattle.std.specs.Prelude.{◌≡◌, ℕ, suc, ◌<◌, ℤ, pos, neg_ℤ, ◌+ℤ◌, ◌*ℤ◌, ◌<ℤ◌, List, length, slice_index_or}
use Rattle.rt_solved.specs.Lines.{LiesOn, IsReduced}
use Rattle.rt_solved.specs.Systems.{System, columns_of, IsSolution}

-- each line has a positive number at its own basic column and 0 at those of the others, and the points on all lines are the solutions
pub record IsSolvedFor (columns count : ℕ) (solution : (ℕ → ℤ) → Type 0) (basis : ℕ → ℕ) (table : ℕ → ℕ → ℤ) : Type 0 where
  pub there : (i : ℕ) → i < count → basis i < columns
  pub positive : (i : ℕ) → i < count → pos 0 <ℤ table i (suc (basis i))
  pub alone : (i k : ℕ) → i < count → k < count → (i ≡ k → ⊥) → table i (suc (basis k)) ≡ pos 0
  pub holds : (point : ℕ → ℤ) → solution point → (i : ℕ) → i < count → LiesOn columns (table i) point
  pub enough : (point : ℕ → ℤ) → ((i : ℕ) → i < count → LiesOn columns (table i) point) → solution point

-- the basic column of a line
abbrev pub basic_of : List ℕ → ℕ → ℕ
basic_of basis i = slice_index_or basis i 0

-- the table of the system's rows, solved for the basis
abbrev pub IsSolved : System → List ℕ → (ℕ → ℕ → ℤ) → Type 0
IsSolved system basis table = IsSolvedFor (columns_of system) (length system.rows) (IsSolution system) (basic_of basis) table

-- solved, and no line has a factor that could be left out: its number at the basic column is the row's denominator, and all are its whole entries
pub record IsWhole (system : System) (basis : List ℕ) (table : ℕ → ℕ → ℤ) : Type 0 where
  pub solved : IsSolved system basis table
  pub reduced : (i : ℕ) → i < length system.rows → IsReduced (columns_of system) (table i)

-- how a table changes where column q becomes basic in line p: that line with the signs turned, and each other line with as much of it as
-- column q asks for, both over a common factor
pub record IsExchanged (columns count p q : ℕ) (table new : ℕ → ℕ → ℤ) : Type 0 where
  pub turned : (s : ℕ) → new p s ≡ neg_ℤ (table p s)
  pub others : (i : ℕ) → i < count → (i ≡ p → ⊥) → (factor : ℤ) × (pos 0 <ℤ factor)
      × ((s : ℕ) → factor *ℤ new i s ≡ neg_ℤ (table p (suc q)) *ℤ table i s +ℤ table i (suc q) *ℤ table p s)
