-- What holds of entries, and of a pivot's answers.
use Rattle.std.specs.Prelude.{◌≡◌, ℕ, ◌≤◌, length}
use Rattle.rt_frac.specs.declared.frac.Frac.{Frac}
use Rattle.rt_solved.specs.Systems.{columns_of}
use Rattle.rt_tableau.specs.States.{State, IsEntry, IsSmallTable, PassesFirst, exchanged_state}

-- a first place past the limit and a table of small entries exclude each other
abbrev pub OverflowExcludes : Type 0
OverflowExcludes = (state : State) (p q i j : ℕ) → PassesFirst state p q i j → IsSmallTable (exchanged_state state p q) → ⊥

-- a state has one entry at a place
abbrev pub OneEntry : Type 0
OneEntry = (state : State) (i j : ℕ) (entry other : Frac) → i ≤ length state.system.rows → j ≤ columns_of state.system → IsEntry state i j entry → IsEntry state i j other → entry ≡ other
