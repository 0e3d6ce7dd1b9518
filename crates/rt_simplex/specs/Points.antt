-- Points that meet rows, the point of a basis, and what the goal is worth at points.
use Rattle.std.specs.Prelude.{◌≡◌, ℕ, suc, ◌<◌, ℤ, pos, ◌*ℤ◌, ◌≤ℤ◌, ◌<ℤ◌, List, length, slice_index_or}
use Rattle.rt_frac.specs.declared.frac.Frac.{Frac}
use Rattle.rt_frac.specs.Fracs.{IsFrac}
use Rattle.rt_solved.specs.Systems.{System, IsSolution, columns_of, variables_of}
use Rattle.rt_solved.specs.Tables.{basic_of}
use Rattle.rt_tableau.specs.States.{State}
use Rattle.rt_simplex.specs.Choices.{goal_of}

-- the point meets the rows: it's a solution, no column is below 0, and number 0, which all are over, is above 0
pub record IsPoint (system : System) (point : ℕ → ℤ) : Type 0 where
  pub solution : IsSolution system point
  pub positive : pos 0 <ℤ point 0
  pub columns : (j : ℕ) → j < columns_of system → pos 0 ≤ℤ point (suc j)

-- the column is basic in no row
abbrev pub IsOff : State → ℕ → Type 0
IsOff state j = (i : ℕ) → i < length state.system.rows → basic_of state.basis i ≡ j → ⊥

-- it's the point of the basis, and meets the rows: columns that are basic in no row are 0
pub record IsBasisPoint (state : State) (point : ℕ → ℤ) : Type 0 where
  pub meets : IsPoint state.system point
  pub off : (j : ℕ) → j < columns_of state.system → IsOff state j → point (suc j) ≡ pos 0

-- the goal is worth no more at the first point than at the second
abbrev pub IsNoMore : State → (ℕ → ℤ) → (ℕ → ℤ) → Type 0
IsNoMore state point other = (point (suc (goal_of state)) *ℤ other 0) ≤ℤ (other (suc (goal_of state)) *ℤ point 0)

-- of all points that meet the rows the goal is worth the least at it
pub record IsLeastPoint (state : State) (point : ℕ → ℤ) : Type 0 where
  pub meets : IsPoint state.system point
  pub least : (other : ℕ → ℤ) → IsPoint state.system other → IsNoMore state point other

-- the fraction, in lowest terms, is the one number over the other
pub record IsQuotient (num den : ℤ) (f : Frac) : Type 0 where
  pub lowest : IsFrac f
  pub equal : f.num *ℤ den ≡ num *ℤ f.den

-- number j of the values, 0 behind them
abbrev pub value_at : List Frac → ℕ → Frac
value_at at j = slice_index_or at j (record { num = pos 0; den = pos 1 })

-- they are what the columns of the variables are worth at the point, in order
pub record AreValues (system : System) (point : ℕ → ℤ) (at : List Frac) : Type 0 where
  pub one_each : length at ≡ variables_of system
  pub each : (j : ℕ) → j < variables_of system → IsQuotient (point (suc j)) (point 0) (value_at at j)
