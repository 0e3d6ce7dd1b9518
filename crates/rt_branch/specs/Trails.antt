-- Trails: what was done to the one table of a search, so that it can go back to an earlier node.
use Rattle.std.specs.Prelude.{◌≡◌, ℕ, List, [], ◌∷◌, length}
use Rattle.rt_rows.specs.declared.row.Row.{Row}
use Rattle.rt_solved.specs.Tables.{basic_of}
use Rattle.rt_tableau.specs.States.{State, IsNegative, IsSmallTable, exchanged_state}
use Rattle.rt_tableau.specs.Added.{added_state}
use Rattle.rt_tableau.specs.Dropped.{dropped_state, EndsInOwn}
use Rattle.rt_branch.specs.declared.parts.Change.{Change}
use Rattle.rt_branch.specs.declared.parts.Change.TheVariants.{Exchanged, Added}

-- the state before had that column basic in row p, and another column was made basic there
pub record WasExchanged (p column : ℕ) (before state : State) : Type 0 where
  pub q : ℕ
  pub negative : IsNegative before p q
  pub was : basic_of before.basis p ≡ column
  pub is : state ≡ exchanged_state before p q
  pub small : IsSmallTable before
  pub one_each : length before.basis ≡ length before.system.rows

-- a row was added to the state before
pub record WasAdded (before state : State) : Type 0 where
  pub row : Row
  pub is : state ≡ added_state before row
  pub small : IsSmallTable before
  pub one_each : length before.basis ≡ length before.system.rows

-- the changes, of which the latest stands first, led from the earlier state to the state
abbrev pub LedTo : List Change → State → State → Type 0
LedTo [] earlier state = earlier ≡ state
LedTo (Exchanged p column ∷ changes) earlier state = (before : State) × WasExchanged p column before state × LedTo changes earlier before
LedTo (Added ∷ changes) earlier state = (before : State) × WasAdded before state × LedTo changes earlier before

-- the state with the change undone: the column is made basic again, or the last row is dropped
abbrev pub undone_state : State → Change → State
undone_state state (Exchanged p column) = exchanged_state state p column
undone_state state Added = dropped_state state

-- the change can be undone: the row has an entry below 0 in the column, or the last row may be dropped
abbrev pub CanUndo : State → Change → Type 0
CanUndo state (Exchanged p column) = IsNegative state p column
CanUndo state Added = EndsInOwn state
