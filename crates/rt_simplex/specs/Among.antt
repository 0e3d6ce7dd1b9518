-- What is chosen among the first columns.
use Rattle.std.specs.Prelude.{◌≡◌, ℕ, suc, ◌<◌, ℤ, pos, ◌<ℤ◌, Option, MatchOption}
use Rattle.rt_solved.specs.Tables.{IsWhole}
use Rattle.rt_tableau.specs.States.{State}
use Rattle.rt_simplex.specs.Choices.{IsFirstColumn, goal_of, cost_by, costs_by}

-- what the column costs by that row of a whole table
pub record IsCostBy (state : State) (row : Option ℕ) (j : ℕ) (cost : ℤ) : Type 0 where
  pub each : (table : ℕ → ℕ → ℤ) → IsWhole state.system state.basis table → cost ≡ cost_by (goal_of state) row table j

-- what comes first among the first columns, if one has an entry below 0
abbrev pub IsFirstOrNone : (ℕ → ℤ) → (ℕ → ℤ) → ℕ → Option ℕ → Type 0
IsFirstOrNone line costs count found = MatchOption found ((j : ℕ) → j < count → line (suc j) <ℤ pos 0 → ⊥) (IsFirstColumn line costs count)

-- it does in row p of a whole table
pub record IsColumnAmong (state : State) (p : ℕ) (row : Option ℕ) (count : ℕ) (found : Option ℕ) : Type 0 where
  pub table : ℕ → ℕ → ℤ
  pub whole : IsWhole state.system state.basis table
  pub is : IsFirstOrNone (table p) (costs_by (goal_of state) row table) count found
