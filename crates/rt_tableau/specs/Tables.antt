-- Lines of all rows, as a tableau keeps them, and what an exchange makes of them.
use Rattle.std.specs.Prelude.{◌≡◌, ℕ, suc, ◌<◌, ◌≤◌, ◌^◌, ℤ, pos, neg_ℤ, ◌+ℤ◌, ◌*ℤ◌, ◌<ℤ◌, List, [], length, slice_index_or}
use Rattle.rt_solved.specs.Systems.{columns_of}
use Rattle.rt_solved.specs.Tables.{IsSolved, basic_of}
use Rattle.rt_tableau.specs.Numbers.{number_of, AreSmall, HaveNoFactor}
use Rattle.rt_tableau.specs.States.{State, IsFirstPast}
use Rattle.rt_tableau.specs.Starts.{HasColumn}

abbrev pub line_at : List (List ℤ) → ℕ → List ℤ
line_at lines i = slice_index_or lines i []

abbrev pub table_of : List (List ℤ) → ℕ → ℕ → ℤ
table_of lines i s = number_of (line_at lines i) s

-- a line that is kept: so many numbers, behind which all are 0, all small, with no factor in common
pub record IsKeptLine (most : ℕ) (line : List ℤ) : Type 0 where
  pub none_behind : (s : ℕ) → most ≤ s → number_of line s ≡ pos 0
  pub small : AreSmall line
  pub reduced : HaveNoFactor (number_of line)

-- the lines are those of the state's whole table, and small
pub record IsKept (state : State) (lines : List (List ℤ)) : Type 0 where
  pub one_each : length lines ≡ length state.system.rows
  pub basis_each : length state.basis ≡ length state.system.rows
  pub fits : columns_of state.system < 2 ^ 32
  pub goal_there : HasColumn state.system.strips state.goal
  pub solved : IsSolved state.system state.basis (table_of lines)
  pub each : (i : ℕ) → i < length state.system.rows → IsKeptLine (suc (columns_of state.system)) (line_at lines i)

-- what an exchange of column q at line p asks of lines
pub record IsReady (lines : List (List ℤ)) (basis : List ℕ) (columns p q : ℕ) : Type 0 where
  pub row : p < length lines
  pub one_each : length basis ≡ length lines
  pub few : columns < 2 ^ 32
  pub column : q < columns
  pub each : (i : ℕ) → i < length lines → IsKeptLine (suc columns) (line_at lines i)
  pub there : (i : ℕ) → i < length lines → basic_of basis i < columns
  pub negative : table_of lines p (suc q) <ℤ pos 0
  pub positive : (i : ℕ) → i < length lines → pos 0 <ℤ table_of lines i (suc (basic_of basis i))
  pub apart : (i : ℕ) → i < length lines → (i ≡ p → ⊥) → table_of lines p (suc (basic_of basis i)) ≡ pos 0

-- the numbers of line i after the exchange
pub record IsNewLine (table : ℕ → ℕ → ℤ) (p q i : ℕ) (numbers : ℕ → ℤ) : Type 0 where
  pub turned : i ≡ p → (s : ℕ) → numbers s ≡ neg_ℤ (table p s)
  pub other : (i ≡ p → ⊥) → (factor : ℕ) × (0 < factor) × ((s : ℕ) → pos factor *ℤ numbers s ≡ neg_ℤ (table p (suc q)) *ℤ table i s +ℤ table i (suc q) *ℤ table p s)
  pub reduced : HaveNoFactor numbers

-- line i after the exchange, where it can be kept
pub record IsNewKept (table : ℕ → ℕ → ℤ) (columns p q i : ℕ) (line : List ℤ) : Type 0 where
  pub new : IsNewLine table p q i (number_of line)
  pub kept : IsKeptLine (suc columns) line

-- line i after the exchange, where it's past the limit first at place j
pub record IsNewPast (table : ℕ → ℕ → ℤ) (columns p q i j : ℕ) : Type 0 where
  pub numbers : ℕ → ℤ
  pub new : IsNewLine table p q i numbers
  pub first : IsFirstPast columns numbers j

-- so many lines after the exchange
pub record AreNew (table : ℕ → ℕ → ℤ) (count columns p q : ℕ) (lines : List (List ℤ)) : Type 0 where
  pub one_each : length lines ≡ count
  pub each : (i : ℕ) → i < count → IsNewKept table columns p q i (line_at lines i)

-- a row, and a place of it
pub record IsStop (table : ℕ → ℕ → ℤ) (count columns p q : ℕ) (at : ℕ × ℕ) : Type 0 where
  pub there : at.0 < count
  pub lines : List (List ℤ)
  pub before : AreNew table at.0 columns p q lines
  pub past : IsNewPast table columns p q at.0 at.1
