-- What holds of solved tables.
use Rattle.std.specs.Prelude.{◌≡◌, ℕ, suc, ◌<◌, ◌≤◌, ℤ, pos, ◌*ℤ◌, ◌≤ℤ◌, ◌<ℤ◌, List, length, slice_set}
use Rattle.rt_solved.specs.Lines.{Divides}
use Rattle.rt_solved.specs.Systems.{System, columns_of}
use Rattle.rt_solved.specs.Tables.{IsSolved, IsWhole, IsExchanged, basic_of}

-- two whole tables for one basis have equal numbers
abbrev pub OneTable : Type 0
OneTable = (system : System) (basis : List ℕ) (table other : ℕ → ℕ → ℤ) → IsWhole system basis table → IsWhole system basis other
    → (i s : ℕ) → i < length system.rows → s ≤ columns_of system → table i s ≡ other i s

-- a positive number whose product with each rational number of a line is whole is no less than the line's number at its basic column
abbrev pub DenominatorsAreLeast : Type 0
DenominatorsAreLeast = (system : System) (basis : List ℕ) (table : ℕ → ℕ → ℤ) → IsWhole system basis table
    → (i : ℕ) (k : ℤ) → i < length system.rows → pos 0 <ℤ k
    → ((s : ℕ) → s ≤ columns_of system → Divides (table i (suc (basic_of basis i))) (k *ℤ table i s)) → table i (suc (basic_of basis i)) ≤ℤ k

-- where line p has a negative number at column q, the exchanged table is solved for the basis with q in the place of p's basic column
abbrev pub ExchangeSolves : Type 0
ExchangeSolves = (system : System) (basis : List ℕ) (p q : ℕ) (table new : ℕ → ℕ → ℤ) → length basis ≡ length system.rows → IsSolved system basis table
    → p < length system.rows → q < columns_of system → table p (suc q) <ℤ pos 0 → IsExchanged (columns_of system) (length system.rows) p q table new
    → IsSolved system (slice_set basis p q) new
