-- Which pivot the dual simplex method makes at a state, and where it makes none.
use Rattle.std.specs.Prelude.{◌≡◌, ℕ, zero, suc, ◌<◌, ◌≤◌, ◌⊎◌, ℤ, pos, neg_ℤ, ◌*ℤ◌, ◌<ℤ◌, length, Option, Some, None, MatchOption, ◌==◌, if◌then◌else◌}
use Rattle.rt_solved.specs.Systems.{column_of, columns_of}
use Rattle.rt_solved.specs.Tables.{IsWhole, basic_of}
use Rattle.rt_tableau.specs.States.{State, IsWholeEntry, IsGoalRow, IsGoalFree}

-- the whole entry at row i and place j is below 0
pub record IsBelow (state : State) (i j : ℕ) : Type 0 where
  pub entry : ℤ
  pub is : IsWholeEntry state i j entry
  pub below : entry <ℤ pos 0

-- of the first rows none has a right side below 0
pub record HasNoRow (state : State) (count : ℕ) : Type 0 where
  pub none : (i : ℕ) → i < count → IsBelow state i (columns_of state.system) → ⊥

-- of those of the first rows whose right side is below 0 it's the one whose basic column is the least
pub record IsFirstRow (state : State) (count p : ℕ) : Type 0 where
  pub there : p < count
  pub below : IsBelow state p (columns_of state.system)
  pub least : (i : ℕ) → i < count → IsBelow state i (columns_of state.system) → basic_of state.basis p ≤ basic_of state.basis i

-- column q's cost over its entry's magnitude is less than column j's, or equal, and q isn't behind j
abbrev pub ComesFirst : (ℕ → ℤ) → (ℕ → ℤ) → ℕ → ℕ → Type 0
ComesFirst line costs q j = ((costs (suc q) *ℤ neg_ℤ (line (suc j))) <ℤ (costs (suc j) *ℤ neg_ℤ (line (suc q))))
    ⊎ ((costs (suc q) *ℤ neg_ℤ (line (suc j)) ≡ costs (suc j) *ℤ neg_ℤ (line (suc q))) × (q ≤ j))

-- the dual ratio test: of those of the first columns whose entry is below 0 it comes first
pub record IsFirstColumn (line costs : ℕ → ℤ) (count q : ℕ) : Type 0 where
  pub there : q < count
  pub below : line (suc q) <ℤ pos 0
  pub first : (j : ℕ) → j < count → line (suc j) <ℤ pos 0 → ComesFirst line costs q j

-- the column of the goal
abbrev pub goal_of : State → ℕ
goal_of state = column_of state.system.strips state.goal

-- the row in which the goal is basic, if there is one
abbrev pub IsGoalAt : State → Option ℕ → Type 0
IsGoalAt state row = MatchOption row (IsGoalFree state) (IsGoalRow state)

-- of that row: its entries with the signs turned, and 0 at the goal; of a goal that is basic nowhere: 1 at the goal
abbrev pub cost_by : ℕ → Option ℕ → (ℕ → ℕ → ℤ) → ℕ → ℤ
cost_by goal None table j = if j == goal then pos 1 else pos 0
cost_by goal (Some i) table j = if j == goal then pos 0 else neg_ℤ (table i (suc j))

-- costs in the places of a line
abbrev pub costs_by : ℕ → Option ℕ → (ℕ → ℕ → ℤ) → ℕ → ℤ
costs_by goal row table zero = pos 0
costs_by goal row table (suc j) = cost_by goal row table j

-- column q comes first in row p, by the whole entries and by the costs that the goal's row gives, which are all over that row's denominator
pub record IsEntering (state : State) (p q : ℕ) : Type 0 where
  pub table : ℕ → ℕ → ℤ
  pub whole : IsWhole state.system state.basis table
  pub row : Option ℕ
  pub goal : IsGoalAt state row
  pub first : IsFirstColumn (table p) (costs_by (goal_of state) row table) (columns_of state.system) q

-- no right side is below 0
abbrev pub IsOptimum : State → Type 0
IsOptimum state = HasNoRow state (length state.system.rows)

-- the row that a pivot takes
abbrev pub IsLeaving : State → ℕ → Type 0
IsLeaving state p = IsFirstRow state (length state.system.rows) p

-- the pivot takes row p, which has no entry below 0
pub record IsRay (state : State) (p : ℕ) : Type 0 where
  pub leaving : IsLeaving state p
  pub none : (j : ℕ) → j < columns_of state.system → IsBelow state p j → ⊥

-- the dual pivot
pub record IsDualPivot (state : State) (p q : ℕ) : Type 0 where
  pub leaving : IsLeaving state p
  pub entering : IsEntering state p q
