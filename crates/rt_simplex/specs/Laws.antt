-- What holds of runs, and where they end.
use Rattle.std.specs.Prelude.{◌≡◌, ℕ, suc, ◌<◌, ℤ, pos, ◌≤ℤ◌, ◌<ℤ◌, ◌⊎◌, List, length, Result}
use Rattle.rt_rows.specs.declared.row.Var.{Var}
use Rattle.rt_rows.specs.declared.row.Row.{Row}
use Rattle.rt_rows.specs.declared.proof.Share.{Share}
use Rattle.rt_frac.specs.declared.frac.Frac.{Frac}
use Rattle.rt_solved.specs.Systems.{IsSolution, columns_of, row_at}
use Rattle.rt_tableau.specs.States.{State, exchanged_state}
use Rattle.rt_tableau.specs.Added.{IsAddable, added_state}
use Rattle.rt_tableau.specs.Starts.{strips_of, system_of, start_of, HasColumn}
use Rattle.rt_simplex.specs.Choices.{IsRay, IsDualPivot}
use Rattle.rt_simplex.specs.declared.answers.End.{End}
use Rattle.rt_simplex.specs.declared.answers.SearchError.{SearchError}
use Rattle.rt_simplex.specs.Runs.{IsRun, IsOutcome}
use Rattle.rt_simplex.specs.Feasible.{IsDualFeasible}
use Rattle.rt_simplex.specs.Bounds.{IsOptimumBound, IsRayBound}
use Rattle.rt_simplex.specs.Points.{IsBasisPoint, IsLeastPoint}

-- no point whose columns are all at least 0 is a solution of the rows of a ray
abbrev pub RayHasNoPoint : Type 0
RayHasNoPoint = (state : State) (p : ℕ) (point : ℕ → ℤ) → IsRay state p → IsSolution state.system point → pos 0 <ℤ point 0
    → ((j : ℕ) → j < columns_of state.system → pos 0 ≤ℤ point (suc j)) → ⊥

-- where no column costs less than 0, none does after a dual pivot
abbrev pub PivotsKeepFeasible : Type 0
PivotsKeepFeasible = (state : State) (p q : ℕ) → IsDualFeasible state → IsDualPivot state p q → IsDualFeasible (exchanged_state state p q)

-- where no column costs less than 0 and each row has a basic column, none does with a row added
abbrev pub AddedRowsKeepFeasible : Type 0
AddedRowsKeepFeasible = (state : State) (row : Row) → length state.basis ≡ length state.system.rows → IsAddable state.system.strips row → IsDualFeasible state → IsDualFeasible (added_state state row)

-- where no column costs less than 0 and the point of the basis meets the rows, the goal is least there
abbrev pub OptimumIsLeast : Type 0
OptimumIsLeast = (state : State) (point : ℕ → ℤ) → IsDualFeasible state → IsBasisPoint state point → IsLeastPoint state point

-- where rows begin, each of which has room for three terms, no column costs less than 0
abbrev pub StartIsFeasible : Type 0
StartIsFeasible = (rows : List Row) (goal : Var) → ((d : ℕ) → d < length rows → length (row_at (system_of rows) d).terms ≡ 3) → HasColumn (strips_of rows) goal → IsDualFeasible (start_of rows goal)

-- of one system's rows there isn't both an optimum and a ray
abbrev pub EndsExclude : Type 0
EndsExclude = (state other : State) (at : List Frac) (shares others : List Share) (over times : ℤ) → state.system ≡ other.system → IsOptimumBound state at shares over → IsRayBound other others times → ⊥

-- of two runs from one start, one goes on from where the other is
abbrev pub RunsAreOne : Type 0
RunsAreOne = (start state other : State) (from count spent : ℕ) → IsRun start from state count → IsRun start from other spent → IsRun state count other spent ⊎ IsRun other spent state count

-- of one start and one limit: if a run comes to an end or a stop, each other run that comes to one comes to the same one, with the same state and the same count
abbrev pub OneOutcome : Type 0
OneOutcome = (start state other : State) (from count spent limit : ℕ) (answer second : Result End SearchError) → IsRun start from state count → IsOutcome limit state count answer
    → IsRun start from other spent → IsOutcome limit other spent second → (state ≡ other) × (count ≡ spent) × (answer ≡ second)
