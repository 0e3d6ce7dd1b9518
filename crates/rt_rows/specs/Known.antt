-- What a row can be tested at: positions that have its variables, with numbers of which the products fit.
use Rattle.std.specs.Prelude.{◌-◌, ◌^◌, ◌<◌, ℤ, pos, negsuc, ◌≤ℤ◌, length, All, Option, Some, None, IsSome}
use Rattle.rt_rows.specs.declared.row.Var.{Var}
use Rattle.rt_rows.specs.declared.row.Var.TheVariants.{L, R, B, T, Width, Height, Axis}
use Rattle.rt_rows.specs.declared.row.Term.{Term}
use Rattle.rt_rows.specs.declared.row.Row.{Row}
use Rattle.rt_rows.specs.declared.positions.Positions.{Positions}
use Rattle.rt_rows.specs.Places.{places}

-- the variable has its entry
abbrev pub HasVariable : Positions → Var → Type 0
HasVariable at (L i) = i < length at.l
HasVariable at (R i) = i < length at.r
HasVariable at (B i) = i < length at.b
HasVariable at (T i) = i < length at.t
HasVariable at Width = Unit {0}
HasVariable at Height = Unit {0}
HasVariable at Axis = IsSome at.axis

abbrev pub HasVariableOf : Positions → Option Term → Type 0
HasVariableOf at None = Unit {0}
HasVariableOf at (Some term) = HasVariable at term.var

-- each variable that the row names has its entry
pub record HasVariables (at : Positions) (row : Row) : Type 0 where
  pub each : All (HasVariableOf at) row.terms

-- the number's magnitude is at most 10^18
pub record IsSmall (number : ℤ) : Type 0 where
  pub low : negsuc (10 ^ 18 - 1) ≤ℤ number
  pub high : number ≤ℤ pos (10 ^ 18)

-- both factors of a term are small
pub record AreSmallFactors (at : Positions) (term : Term) : Type 0 where
  pub times : IsSmall term.times
  pub place : IsSmall (places at term.var)

abbrev pub IsSmallTerm : Positions → Option Term → Type 0
IsSmallTerm at None = Unit {0}
IsSmallTerm at (Some term) = AreSmallFactors at term

-- no number that is multiplied for the row passes a magnitude of 10^18
pub record AreSmall (at : Positions) (row : Row) : Type 0 where
  pub each : All (IsSmallTerm at) row.terms

-- the number's magnitude is at most 10^36
pub record IsProduct (number : ℤ) : Type 0 where
  pub low : negsuc (10 ^ 36 - 1) ≤ℤ number
  pub high : number ≤ℤ pos (10 ^ 36)
