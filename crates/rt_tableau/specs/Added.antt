-- A row that is added to a tableau.
use Rattle.std.specs.Prelude.{◌≡◌, ℕ, suc, ◌+◌, ◌<◌, ◌≤◌, ◌⊎◌, ℤ, pos, negsuc, neg_ℤ, ◌+ℤ◌, ◌*ℤ◌, ◌<ℤ◌, List, [], ◌∷◌, ◌++◌, length, Some, None, ◌≤ℤ◌}
use Rattle.rt_rows.specs.declared.row.Term.{Term}
use Rattle.rt_rows.specs.declared.row.Row.{Row}
use Rattle.rt_rows.specs.Known.{IsSmall}
use Rattle.rt_solved.specs.Lines.{Divides, IsReduced, worth}
use Rattle.rt_solved.specs.Systems.{columns_of, column_of, IsSolution}
use Rattle.rt_solved.specs.Tables.{IsSolved, IsWhole, basic_of}
use Rattle.rt_tableau.specs.Numbers.{number_of, AreSmall, IsPast}
use Rattle.rt_tableau.specs.States.{State}
use Rattle.rt_tableau.specs.Starts.{HasColumn}

-- the row says that a variable is at least or at most a number: its one term stands first
pub record IsAddable (strips : ℕ) (row : Row) : Type 0 where
  pub term : Term
  pub only : row.terms ≡ Some term ∷ None ∷ None ∷ []
  pub unit : (term.times ≡ pos 1) ⊎ (term.times ≡ negsuc 0)
  pub column : HasColumn strips term.var
  pub least : IsSmall row.least

-- the state with the row added, and its own column basic in it
abbrev pub added_state : State → Row → State
added_state state row = record {
  system = record { strips = state.system.strips; rows = state.system.rows ++ row ∷ [] };
  goal = state.goal;
  basis = state.basis ++ columns_of state.system ∷ [];
}

-- with the row added, its whole entry on the right side is past 10^18, and no other can be
pub record IsPastAdded (state : State) (row : Row) : Type 0 where
  pub table : ℕ → ℕ → ℤ
  pub solved : IsSolved (added_state state row).system (added_state state row).basis table
  pub reduced : IsReduced (columns_of (added_state state row).system) (table (length state.system.rows))
  pub past : IsPast (table (length state.system.rows) 0)

-- the row is one of the two of a branch: its variable is basic in a row, and lies between a whole number and the next one; it's at most the one, or at
-- least the other
pub record IsBranch (state : State) (row : Row) : Type 0 where
  pub table : ℕ → ℕ → ℤ
  pub whole : IsWhole state.system state.basis table
  pub i : ℕ
  pub there : i < length state.system.rows
  pub term : Term
  pub only : row.terms ≡ Some term ∷ None ∷ None ∷ []
  pub basic : basic_of state.basis i ≡ column_of state.system.strips term.var
  pub floor : ℤ
  pub from : (floor *ℤ table i (suc (basic_of state.basis i))) ≤ℤ table i 0
  pub to : table i 0 <ℤ ((floor +ℤ pos 1) *ℤ table i (suc (basic_of state.basis i)))
  pub side : ((term.times ≡ negsuc 0) × (row.least ≡ neg_ℤ floor)) ⊎ ((term.times ≡ pos 1) × (row.least ≡ floor +ℤ pos 1))

-- how a column is told by the others: so many times it is the line's right side less the sum of its numbers times columns, none of them basic
pub record IsWorth (state : State) (column : ℕ) (rest : List ℤ) (over : ℤ) : Type 0 where
  pub positive : pos 0 <ℤ over
  pub small_over : IsSmall over
  pub small : AreSmall rest
  pub none_behind : (s : ℕ) → suc (columns_of state.system) ≤ s → number_of rest s ≡ pos 0
  pub equal : (point : ℕ → ℤ) → IsSolution state.system point → worth (columns_of state.system) (number_of rest) point +ℤ over *ℤ point (suc column) ≡ pos 0
  pub clear : (i : ℕ) → i < length state.system.rows → number_of rest (suc (basic_of state.basis i)) ≡ pos 0
  pub no_factor : (d k : ℤ) → Divides d (k *ℤ over) → ((s : ℕ) → Divides d (k *ℤ number_of rest s)) → Divides d k

-- the right side of the added row
abbrev pub added_right : ℤ → ℤ → ℤ → List ℤ → ℤ
added_right least times over rest = neg_ℤ least *ℤ over +ℤ times *ℤ number_of rest 0

-- the line of the added row
pub record IsAddedLine (own : ℕ) (least times over : ℤ) (rest line : List ℤ) : Type 0 where
  pub long : length line ≡ own + 2
  pub small : AreSmall line
  pub right : number_of line 0 ≡ added_right least times over rest
  pub own_is : number_of line (suc own) ≡ over
  pub others : (s : ℕ) → 0 < s → s < suc own → number_of line s ≡ times *ℤ number_of rest s

-- some line of the row, past the limit
pub record PassesAdded (state : State) (column : ℕ) (least times : ℤ) : Type 0 where
  pub rest : List ℤ
  pub over : ℤ
  pub worth_is : IsWorth state column rest over
  pub past : IsPast (added_right least times over rest)

-- it's the line of the row
pub record IsAdded (state : State) (column : ℕ) (least times : ℤ) (line : List ℤ) : Type 0 where
  pub rest : List ℤ
  pub over : ℤ
  pub worth_is : IsWorth state column rest over
  pub is : IsAddedLine (columns_of state.system) least times over rest line

-- it's the line of an addable row
pub record IsNewRow (state : State) (row : Row) (line : List ℤ) : Type 0 where
  pub fit : IsAddable state.system.strips row
  pub is : IsAdded state (column_of state.system.strips fit.term.var) row.least fit.term.times line
