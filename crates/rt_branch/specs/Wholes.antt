-- Whole positions that meet rows, and which of them are the least.
use Rattle.std.specs.Prelude.{◌≡◌, ℕ, suc, ◌<◌, ℤ, pos, ◌≤ℤ◌, List, length, Option, Some, None}
use Rattle.rt_rows.specs.Rows.{MeetsRow}
use Rattle.rt_solved.specs.Systems.{System, variables_of, column_of, row_at}
use Rattle.rt_tableau.specs.States.{State}
use Rattle.rt_simplex.specs.Choices.{goal_of}
use Rattle.rt_simplex.specs.Points.{IsPoint}
use Rattle.rt_branch.specs.Values.{whole_at}
use Rattle.rt_branch.specs.declared.parts.Best.{Best}

-- a point of whole numbers that meets the rows
pub record IsWholePoint (system : System) (point : ℕ → ℤ) : Type 0 where
  pub meets : IsPoint system point
  pub one : point 0 ≡ pos 1

-- at no whole point that meets the root's rows the goal is worth less than the best extent; without a best there is no such point
abbrev pub IsLeastOf : State → Option Best → Type 0
IsLeastOf root None = (point : ℕ → ℤ) → IsWholePoint root.system point → ⊥
IsLeastOf root (Some best) = (point : ℕ → ℤ) → IsWholePoint root.system point → best.extent ≤ℤ point (suc (goal_of root))

-- the best positions, one for each variable, are those of a whole point that meets the root's rows, and the goal is worth the best extent at it
pub record IsAttained (root : State) (best : Best) : Type 0 where
  pub one_each : length best.at ≡ variables_of root.system
  pub point : ℕ → ℤ
  pub whole : IsWholePoint root.system point
  pub at : (j : ℕ) → j < variables_of root.system → point (suc j) ≡ whole_at best.at j
  pub extent : best.extent ≡ point (suc (goal_of root))

-- whole numbers, one for each variable in the order of the columns, none of them below 0, meet each row
pub record MeetRows (system : System) (at : List ℤ) : Type 0 where
  pub one_each : length at ≡ variables_of system
  pub none_below : (j : ℕ) → j < variables_of system → pos 0 ≤ℤ whole_at at j
  pub rows : (d : ℕ) → d < length system.rows → MeetsRow (λ var. whole_at at (column_of system.strips var)) (row_at system d)

-- the best positions meet the root's rows, their extent is what the goal is there, and no whole positions that meet the rows have a lesser one
pub record AreBest (root : State) (best : Best) : Type 0 where
  pub meet : MeetRows root.system best.at
  pub extent : best.extent ≡ whole_at best.at (goal_of root)
  pub least : (other : List ℤ) → MeetRows root.system other → best.extent ≤ℤ whole_at other (goal_of root)

-- they are the best; or there are none, and no whole positions meet the rows
abbrev pub IsTheLeast : State → Option Best → Type 0
IsTheLeast root None = (other : List ℤ) → MeetRows root.system other → ⊥
IsTheLeast root (Some best) = AreBest root best
