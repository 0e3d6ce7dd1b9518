-- Combinations of a system's rows, and what they show.
use Rattle.std.specs.Prelude.{ℕ, ◌<◌, ◌==◌, ℤ, pos, ◌+ℤ◌, ◌≤ℤ◌, ◌<ℤ◌, List, [], ◌∷◌, map}
use Rattle.rt_rows.specs.declared.row.Term.{Term}
use Rattle.rt_rows.specs.declared.name.Name.{Name}
use Rattle.rt_rows.specs.declared.proof.Share.{Share}
use Rattle.rt_proofs.specs.Forms.{Sum, only_if}
use Rattle.rt_proofs.specs.Rows.{sum_of}
use Rattle.rt_proofs.specs.Trees.{Combined}
use Rattle.rt_solved.specs.Systems.{System, column_of, variables_of}
use Rattle.rt_tableau.specs.States.{State}
use Rattle.rt_simplex.specs.Choices.{goal_of}

-- how many times the terms have the column
abbrev pub times_of : ℕ → ℕ → List Term → ℤ
times_of strips j [] = pos 0
times_of strips j (term ∷ terms) = only_if (column_of strips term.var == j) term.times +ℤ times_of strips j terms

-- no row has a name
abbrev pub HasNoName : Name → Sum → Type 0
HasNoName name row = ⊥

-- the shares, which tell rows by their numbers and take none less than 0 times, add up to the inequality
abbrev pub AddsUp : System → List Share → Sum → Type 0
AddsUp system shares sum = Combined HasNoName (map sum_of system.rows) shares sum

-- the combination has the goal so many times at most, and no other variable more than 0 times
pub record IsGoalBound (state : State) (shares : List Share) (over : ℤ) (sum : Sum) : Type 0 where
  pub adds : AddsUp state.system shares sum
  pub positive : pos 0 <ℤ over
  pub most : (j : ℕ) → j < variables_of state.system → times_of state.system.strips j sum.terms ≤ℤ only_if (j == goal_of state) over

-- the combination has no variable more than 0 times, and its least value is above 0
pub record IsRefuting (system : System) (shares : List Share) (sum : Sum) : Type 0 where
  pub adds : AddsUp system shares sum
  pub none : (j : ℕ) → j < variables_of system → times_of system.strips j sum.terms ≤ℤ pos 0
  pub right : pos 0 <ℤ sum.least
