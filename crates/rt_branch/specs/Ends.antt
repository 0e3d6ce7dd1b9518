-- What code finds at an optimum: in which rows variables are basic, what they are worth, and which positions are kept.
use Rattle.std.specs.Prelude.{◌≡◌, ℕ, ◌<◌, ℤ, pos, ◌+ℤ◌, ◌*ℤ◌, ◌≤ℤ◌, ◌<ℤ◌, List, length, slice_index_or, Option, Some, None, MatchOption}
use Rattle.rt_rows.specs.Known.{IsSmall}
use Rattle.rt_solved.specs.Systems.{variables_of}
use Rattle.rt_solved.specs.Tables.{basic_of}
use Rattle.rt_tableau.specs.States.{State}
use Rattle.rt_simplex.specs.Choices.{goal_of}
use Rattle.rt_branch.specs.declared.parts.Best.{Best}
use Rattle.rt_branch.specs.declared.parts.Value.{Value}
use Rattle.rt_branch.specs.declared.parts.Value.TheVariants as value
use Rattle.rt_branch.specs.declared.parts.Point.{Point}
use Rattle.rt_branch.specs.declared.parts.Point.TheVariants as point
use Rattle.rt_branch.specs.Values.{IsWholeValue, IsBrokenValue, IsFirstBroken, whole_at, AreWhole}
use Rattle.rt_branch.specs.Searches.{IsLesser}

-- the first number over the second is that whole number, or lies between it, which isn't below 0, and the next one
abbrev pub IsQuotient : ℤ → ℤ → Value → Type 0
IsQuotient right over (value.Whole n) = right ≡ n *ℤ over
IsQuotient right over (value.Broken n) = (pos 0 ≤ℤ n) × ((n *ℤ over) <ℤ right) × (right <ℤ ((n +ℤ pos 1) *ℤ over))

-- the row among the first ones in which the column is basic, if there is one
abbrev pub IsRowAmong : State → ℕ → ℕ → Option ℕ → Type 0
IsRowAmong state count j row = MatchOption row ((i : ℕ) → i < count → basic_of state.basis i ≡ j → ⊥) (λ i. (i < count) × (basic_of state.basis i ≡ j))

-- the row in which it is basic
abbrev pub IsRowOf : State → ℕ → Option ℕ → Type 0
IsRowOf state j row = IsRowAmong state (length state.system.rows) j row

-- for each variable the row among the first ones in which its column is basic
pub record HasRows (state : State) (count : ℕ) (rows : List (Option ℕ)) : Type 0 where
  pub one_each : length rows ≡ variables_of state.system
  pub each : (j : ℕ) → j < variables_of state.system → IsRowAmong state count j (slice_index_or rows j None)

-- what the column is worth
abbrev pub IsValueOf : State → ℕ → Value → Type 0
IsValueOf state j (value.Whole n) = IsWholeValue state j n
IsValueOf state j (value.Broken n) = (pos 0 ≤ℤ n) × IsBrokenValue state j n

-- what the variables are worth, or the first that isn't whole
abbrev pub IsPointOf : State → Point → Type 0
IsPointOf state (point.Whole at) = AreWhole state at
IsPointOf state (point.Broken j n) = (pos 0 ≤ℤ n) × IsFirstBroken state j n

-- the positions, with what the goal is worth at them
pub record IsBestOf (state : State) (at : List ℤ) (best : Best) : Type 0 where
  pub at_is : best.at ≡ at
  pub extent_is : best.extent ≡ whole_at at (goal_of state)

-- the best extent is small, where there is one
abbrev pub IsSmallBest : Option Best → Type 0
IsSmallBest None = Unit {0}
IsSmallBest (Some best) = IsSmall best.extent

-- of the positions so far and those that are found the best are kept
pub record AreKept (best : Option Best) (found : Best) (new : Option Best) : Type 0 where
  pub kept : Best
  pub lesser : IsLesser best found kept
  pub is : new ≡ Some kept
