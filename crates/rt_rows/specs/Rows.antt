-- Rows over whole numbers: a value for each variable either meets a row or doesn't.
use Rattle.std.specs.Prelude.{ℤ, pos, negsuc, neg_ℤ, ◌+ℤ◌, ◌*ℤ◌, ◌≤ℤ◌, List, [], ◌∷◌, Option, Some, None}
use Rattle.rt_rows.specs.declared.row.Var.{Var}
use Rattle.rt_rows.specs.declared.row.Term.{Term}
use Rattle.rt_rows.specs.declared.row.Row.{Row}

-- what a term is worth at given values
abbrev pub term_value : (Var → ℤ) → Option Term → ℤ
term_value at None = pos 0
term_value at (Some term) = term.times *ℤ at term.var

-- the sum of the terms
abbrev pub sum_of_terms : (Var → ℤ) → List (Option Term) → ℤ
sum_of_terms at [] = pos 0
sum_of_terms at (term ∷ terms) = term_value at term +ℤ sum_of_terms at terms

-- the values meet the row
pub record MeetsRow (at : Var → ℤ) (row : Row) : Type 0 where
  pub holds : row.least ≤ℤ sum_of_terms at row.terms

-- a variable is at least a number
abbrev pub at_least : Var → ℤ → Row
at_least var least = record { terms = Some (record { var = var; times = pos 1 }) ∷ None ∷ None ∷ []; least = least }

-- a variable is at most a number
abbrev pub at_most : Var → ℤ → Row
at_most var most = record { terms = Some (record { var = var; times = negsuc 0 }) ∷ None ∷ None ∷ []; least = neg_ℤ most }

-- the second variable is beyond the first by a number at least
abbrev pub beyond : Var → Var → ℤ → Row
beyond first second by = record {
  terms = Some (record { var = second; times = pos 1 }) ∷ Some (record { var = first; times = negsuc 0 }) ∷ None ∷ [];
  least = by;
}
