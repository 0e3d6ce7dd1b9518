-- What a tableau stands for, and what its entries are, by the rows and the basis alone.
use Rattle.std.specs.Prelude.{◌≡◌, ℕ, suc, ◌<◌, ◌≤◌, ℤ, pos, ◌+ℤ◌, ◌*ℤ◌, ◌<ℤ◌, List, length, slice_set, ◌==◌, if◌then◌else◌}
use Rattle.rt_rows.specs.declared.row.Var.{Var}
use Rattle.rt_rows.specs.Known.{IsSmall}
use Rattle.rt_frac.specs.declared.frac.Frac.{Frac}
use Rattle.rt_frac.specs.Fracs.{IsFracOf}
use Rattle.rt_solved.specs.Lines.{total, IsReduced}
use Rattle.rt_solved.specs.Systems.{System, IsSolution, column_of, columns_of}
use Rattle.rt_solved.specs.Tables.{IsSolved, IsWhole, basic_of}
use Rattle.rt_tableau.specs.Numbers.{IsPast}

-- rows, the variable whose costs are told, and the basic column of each row
pub record State : Type 0 where
  pub system : System
  pub goal : Var
  pub basis : List ℕ

-- the number of a line that stands at a place of the table: columns in order, then the right side
abbrev pub number_at : ℕ → ℕ → ℕ
number_at columns j = if j == columns then 0 else suc j

-- the whole entry at row i and place j
pub record IsWholeEntry (state : State) (i j : ℕ) (entry : ℤ) : Type 0 where
  pub table : ℕ → ℕ → ℤ
  pub whole : IsWhole state.system state.basis table
  pub is : entry ≡ table i (number_at (columns_of state.system) j)

-- the rational entry at row i and place j: the whole one over the one at the row's basic column
pub record IsRowEntry (state : State) (i j : ℕ) (entry : Frac) : Type 0 where
  pub table : ℕ → ℕ → ℤ
  pub whole : IsWhole state.system state.basis table
  pub is : IsFracOf (table i (number_at (columns_of state.system) j)) (table i (suc (basic_of state.basis i))) entry

-- the goal, so many times, is a right side and the sum of costs times columns at each solution, and basic columns cost nothing
pub record AreCosts (state : State) (times : ℤ) (costs : ℕ → ℤ) : Type 0 where
  pub positive : pos 0 <ℤ times
  pub basic : (i : ℕ) → i < length state.system.rows → costs (suc (basic_of state.basis i)) ≡ pos 0
  pub equal : (point : ℕ → ℤ) → IsSolution state.system point → times *ℤ point (suc (column_of state.system.strips state.goal))
      ≡ costs 0 *ℤ point 0 +ℤ total (columns_of state.system) (λ j. costs (suc j) *ℤ point (suc j))

-- the cost at place j, or what stands on the right side of the goal
pub record IsCost (state : State) (j : ℕ) (entry : Frac) : Type 0 where
  pub table : ℕ → ℕ → ℤ
  pub solved : IsSolved state.system state.basis table
  pub times : ℤ
  pub costs : ℕ → ℤ
  pub are : AreCosts state times costs
  pub is : IsFracOf (costs (number_at (columns_of state.system) j)) times entry

-- the rational entry at a place: of a row, or behind the rows of the costs
pub record IsEntry (state : State) (i j : ℕ) (entry : Frac) : Type 0 where
  pub of_row : i < length state.system.rows → IsRowEntry state i j entry
  pub of_costs : i ≡ length state.system.rows → IsCost state j entry

-- the goal is basic in that row
pub record IsGoalRow (state : State) (i : ℕ) : Type 0 where
  pub there : i < length state.system.rows
  pub is : basic_of state.basis i ≡ column_of state.system.strips state.goal

-- the goal is basic in no row
pub record IsGoalFree (state : State) : Type 0 where
  pub free : (i : ℕ) → i < length state.system.rows → basic_of state.basis i ≡ column_of state.system.strips state.goal → ⊥

-- the rows, solved for the basis, have a number below 0 at row p and column q
pub record IsNegative (state : State) (p q : ℕ) : Type 0 where
  pub row : p < length state.system.rows
  pub column : q < columns_of state.system
  pub table : ℕ → ℕ → ℤ
  pub solved : IsSolved state.system state.basis table
  pub negative : table p (suc q) <ℤ pos 0

-- the state with column q basic in row p
abbrev pub exchanged_state : State → ℕ → ℕ → State
exchanged_state state p q = record { system = state.system; goal = state.goal; basis = slice_set state.basis p q }

-- all numbers of a row's line are small
pub record IsSmallLine (columns : ℕ) (line : ℕ → ℤ) : Type 0 where
  pub each : (s : ℕ) → s ≤ columns → IsSmall (line s)

-- all whole entries of the rows are small
pub record IsSmallTable (state : State) : Type 0 where
  pub table : ℕ → ℕ → ℤ
  pub whole : IsWhole state.system state.basis table
  pub small : (i : ℕ) → i < length state.system.rows → IsSmallLine (columns_of state.system) (table i)

-- place j is the first of the line whose magnitude is past 10^18
pub record IsFirstPast (columns : ℕ) (line : ℕ → ℤ) (j : ℕ) : Type 0 where
  pub there : j ≤ columns
  pub past : IsPast (line (number_at columns j))
  pub before : (k : ℕ) → k < j → IsSmall (line (number_at columns k))

-- where column q becomes basic in row p, the whole entries of the rows before row i are small, and that row's are past 10^18 at place j first
pub record PassesFirst (state : State) (p q i j : ℕ) : Type 0 where
  pub table : ℕ → ℕ → ℤ
  pub solved : IsSolved state.system (slice_set state.basis p q) table
  pub row : i < length state.system.rows
  pub reduced_before : (r : ℕ) → r < i → IsReduced (columns_of state.system) (table r)
  pub small_before : (r : ℕ) → r < i → IsSmallLine (columns_of state.system) (table r)
  pub reduced : IsReduced (columns_of state.system) (table i)
  pub first : IsFirstPast (columns_of state.system) (table i) j
