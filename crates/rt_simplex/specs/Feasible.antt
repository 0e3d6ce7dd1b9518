-- States in which no column costs less than 0.
use Rattle.std.specs.Prelude.{ℕ, suc, ◌<◌, ℤ, pos, ◌≤ℤ◌, length}
use Rattle.rt_solved.specs.Systems.{columns_of, row_at}
use Rattle.rt_tableau.specs.States.{State, AreCosts}
use Rattle.rt_tableau.specs.Starts.{HasColumn, HaveColumns}

-- what the rows and the goal name has columns; and the goal, so many times, is a right side and the sum of costs times columns at each solution, where
-- basic columns cost nothing and no column costs less than 0
pub record IsDualFeasible (state : State) : Type 0 where
  pub rows : (d : ℕ) → d < length state.system.rows → HaveColumns state.system.strips (row_at state.system d).terms
  pub goal : HasColumn state.system.strips state.goal
  pub times : ℤ
  pub costs : ℕ → ℤ
  pub are : AreCosts state times costs
  pub none_below : (j : ℕ) → j < columns_of state.system → pos 0 ≤ℤ costs (suc j)
