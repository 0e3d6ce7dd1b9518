-- How combinations and values are gathered, row by row.
use Rattle.std.specs.Prelude.{◌≡◌, ℕ, zero, suc, ◌<◌, ℤ, pos, negsuc, ◌*ℤ◌, List, [], ◌∷◌, ◌++◌, length, Option, Some, None}
use Rattle.rt_rows.specs.declared.proof.Of.TheVariants.{Up}
use Rattle.rt_rows.specs.declared.proof.Share.{Share}
use Rattle.rt_frac.specs.declared.frac.Frac.{Frac}
use Rattle.rt_proofs.specs.Forms.{Sum}
use Rattle.rt_proofs.specs.Rows.{terms_of}
use Rattle.rt_solved.specs.Lines.{total}
use Rattle.rt_solved.specs.Systems.{System, row_at, own_column, columns_of, variables_of}
use Rattle.rt_solved.specs.Tables.{IsWhole, basic_of}
use Rattle.rt_tableau.specs.States.{State, IsRowEntry}
use Rattle.rt_simplex.specs.Choices.{goal_of, costs_by}
use Rattle.rt_simplex.specs.Combinations.{times_of, AddsUp}
use Rattle.rt_simplex.specs.Points.{value_at}

-- the shares with the row of that number taken so many times, and as they are at 0
abbrev pub with_share : List Share → ℕ → ℤ → List Share
with_share shares d (pos zero) = shares
with_share shares d (pos (suc n)) = shares ++ record { times = pos (suc n); of = Up d } ∷ []
with_share shares d (negsuc n) = shares ++ record { times = negsuc n; of = Up d } ∷ []

-- how many times the goal is taken where its costs are those that its row tells: the row's denominator, or once
abbrev pub times_by : ℕ → Option ℕ → (ℕ → ℕ → ℤ) → ℤ
times_by goal None table = pos 1
times_by goal (Some i) table = table i (suc goal)

-- it's that number of a whole table
pub record AreTimesBy (state : State) (row : Option ℕ) (times : ℤ) : Type 0 where
  pub each : (table : ℕ → ℕ → ℤ) → IsWhole state.system state.basis table → times ≡ times_by (goal_of state) row table

-- the rows have a table that is solved for the basis
pub record HasTable (state : State) : Type 0 where
  pub table : ℕ → ℕ → ℤ
  pub whole : IsWhole state.system state.basis table

-- the first rows, each as often as a line has its own column, add up to this
pub record AreTaken (system : System) (line : ℕ → ℤ) (count : ℕ) (shares : List Share) : Type 0 where
  pub sum : Sum
  pub adds : AddsUp system shares sum
  pub terms : (j : ℕ) → times_of system.strips j sum.terms ≡ total count (λ d. line (suc (own_column system d)) *ℤ times_of system.strips j (terms_of (row_at system d).terms))
  pub least : sum.least ≡ total count (λ d. line (suc (own_column system d)) *ℤ (row_at system d).least)

-- the same by what own columns cost by the goal's row
pub record AreTakenByCosts (state : State) (row : Option ℕ) (count : ℕ) (shares : List Share) : Type 0 where
  pub each : (table : ℕ → ℕ → ℤ) → IsWhole state.system state.basis table → AreTaken state.system (costs_by (goal_of state) row table) count shares

-- the same by the whole entries of row p
pub record AreTakenByRow (state : State) (p count : ℕ) (shares : List Share) : Type 0 where
  pub each : (table : ℕ → ℕ → ℤ) → IsWhole state.system state.basis table → AreTaken state.system (table p) count shares

-- of the first rows the values of the basic columns are there, all others are 0
pub record AreFilled (state : State) (count : ℕ) (at : List Frac) : Type 0 where
  pub one_each : length at ≡ variables_of state.system
  pub there : (i : ℕ) → i < count → basic_of state.basis i < variables_of state.system → IsRowEntry state i (columns_of state.system) (value_at at (basic_of state.basis i))
  pub rest : (j : ℕ) → j < variables_of state.system → ((i : ℕ) → i < count → basic_of state.basis i ≡ j → ⊥) → value_at at j ≡ record { num = pos 0; den = pos 1 }
