-- A row that is taken away from a tableau.
use Rattle.std.specs.Prelude.{◌≡◌, ℕ, suc, ◌-◌, ◌<◌, length, take}
use Rattle.rt_solved.specs.Systems.{System, own_column, row_at}
use Rattle.rt_solved.specs.Tables.{basic_of}
use Rattle.rt_tableau.specs.States.{State}
use Rattle.rt_tableau.specs.Starts.{HaveColumns}

-- the state without its last row
abbrev pub dropped_state : State → State
dropped_state state = record {
  system = record { strips = state.system.strips; rows = take (length state.system.rows - 1) state.system.rows };
  goal = state.goal;
  basis = take (length state.basis - 1) state.basis;
}

-- in the last row its own column is basic
pub record EndsInOwn (state : State) : Type 0 where
  pub last : ℕ
  pub rows : length state.system.rows ≡ suc last
  pub one_each : length state.basis ≡ suc last
  pub own : basic_of state.basis last ≡ own_column state.system last

-- all variables that the rows name have columns
pub record AreNamed (system : System) : Type 0 where
  pub each : (d : ℕ) → d < length system.rows → HaveColumns system.strips (row_at system d).terms
