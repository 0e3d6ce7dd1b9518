-- What columns are worth at the point of a basis, and which of them are whole.
use Rattle.std.specs.Prelude.{◌≡◌, ℕ, suc, ◌<◌, ◌⊎◌, ℤ, pos, ◌+ℤ◌, ◌*ℤ◌, ◌<ℤ◌, List, length, slice_index_or}
use Rattle.rt_solved.specs.Systems.{variables_of}
use Rattle.rt_solved.specs.Tables.{IsWhole, basic_of}
use Rattle.rt_tableau.specs.States.{State}
use Rattle.rt_simplex.specs.Points.{IsOff}

-- the column is basic in a row, and worth the row's right side over the row's denominator
pub record IsBasicValue (state : State) (j : ℕ) (right over : ℤ) : Type 0 where
  pub i : ℕ
  pub there : i < length state.system.rows
  pub is : basic_of state.basis i ≡ j
  pub table : ℕ → ℕ → ℤ
  pub whole : IsWhole state.system state.basis table
  pub right_is : right ≡ table i 0
  pub over_is : over ≡ table i (suc j)

-- the column is basic in no row, and worth 0
pub record IsFreeValue (state : State) (j : ℕ) (right over : ℤ) : Type 0 where
  pub off : IsOff state j
  pub right_is : right ≡ pos 0
  pub over_is : over ≡ pos 1

-- at the point of the basis the column is worth the one number over the other
abbrev pub IsValue : State → ℕ → ℤ → ℤ → Type 0
IsValue state j right over = IsBasicValue state j right over ⊎ IsFreeValue state j right over

-- it's worth that whole number
pub record IsWholeValue (state : State) (j : ℕ) (n : ℤ) : Type 0 where
  pub right : ℤ
  pub over : ℤ
  pub value : IsValue state j right over
  pub equal : right ≡ n *ℤ over

-- it's worth more than that whole number, and less than the next one
pub record IsBrokenValue (state : State) (j : ℕ) (n : ℤ) : Type 0 where
  pub right : ℤ
  pub over : ℤ
  pub value : IsValue state j right over
  pub from : (n *ℤ over) <ℤ right
  pub to : right <ℤ ((n +ℤ pos 1) *ℤ over)

-- it's the first column of a variable that isn't whole, and lies between that whole number and the next one
pub record IsFirstBroken (state : State) (j : ℕ) (n : ℤ) : Type 0 where
  pub there : j < variables_of state.system
  pub broken : IsBrokenValue state j n
  pub before : (k : ℕ) → k < j → (value : ℤ) × IsWholeValue state k value

-- number j of whole values, 0 behind them
abbrev pub whole_at : List ℤ → ℕ → ℤ
whole_at at j = slice_index_or at j (pos 0)

-- the columns of all variables are whole, and worth these numbers in order
pub record AreWhole (state : State) (at : List ℤ) : Type 0 where
  pub one_each : length at ≡ variables_of state.system
  pub each : (j : ℕ) → j < variables_of state.system → IsWholeValue state j (whole_at at j)
