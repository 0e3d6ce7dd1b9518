-- Runs of the dual simplex method, their ends, and why one stops.
use Rattle.std.specs.Prelude.{◌≡◌, ℕ, ◌+◌, ◌<◌, ◌≤◌, Result, Ok, Err}
use Rattle.rt_tableau.specs.States.{State, IsSmallTable, PassesFirst, exchanged_state}
use Rattle.rt_simplex.specs.Choices.{IsOptimum, IsRay, IsDualPivot}
use Rattle.rt_simplex.specs.declared.answers.End.{End}
use Rattle.rt_simplex.specs.declared.answers.End.TheVariants.{Optimum, Ray}
use Rattle.rt_simplex.specs.declared.answers.Next.{Next}
use Rattle.rt_simplex.specs.declared.answers.Next.TheVariants.{Ended, Pivot}
use Rattle.rt_simplex.specs.declared.answers.SearchError.{SearchError}
use Rattle.rt_simplex.specs.declared.answers.SearchError.TheVariants.{Refuted, Overflow, Budget, OutOfMemory}

-- dual pivots and no others, each to a state whose whole entries are small, and each counted once, lead from a state and a count to another
pub data IsRun (start : State) (from : ℕ) : State → ℕ → Type 0 where
  none : IsRun start from start from
  more : (state : State) (count p q : ℕ) → IsRun start from state count → IsDualPivot state p q → IsSmallTable (exchanged_state state p q)
      → IsRun start from (exchanged_state state p q) (count + 1)

-- where a run ends
abbrev pub IsEnd : State → End → Type 0
IsEnd state Optimum = IsOptimum state
IsEnd state (Ray p) = IsRay state p

-- what comes next: an end, or the dual pivot
abbrev pub IsNext : State → Next → Type 0
IsNext state (Ended end) = IsEnd state end
IsNext state (Pivot p q) = IsDualPivot state p q

-- a dual pivot is needed
pub record NeedsPivot (state : State) : Type 0 where
  pub p : ℕ
  pub q : ℕ
  pub dual : IsDualPivot state p q

-- why a run stops before its end: the dual pivot could be counted, and would pass the limit of entries, first at that place; or it's needed, and all that
-- may be counted are
abbrev pub IsStop : ℕ → State → ℕ → SearchError → Type 0
IsStop limit state count (Refuted proof) = ⊥
IsStop limit state count (Overflow basis p q i j) = (basis ≡ state.basis) × (count < limit) × IsDualPivot state p q × PassesFirst state p q i j
IsStop limit state count (Budget pivots) = (pivots ≡ limit) × (count ≡ limit) × NeedsPivot state
IsStop limit state count OutOfMemory = Unit {0}

-- what a run comes to within a limit: an end, or a stop that the rows ask for. Want of memory isn't one
abbrev pub IsOutcome : ℕ → State → ℕ → Result End SearchError → Type 0
IsOutcome limit state count (Ok end) = (count ≤ limit) × IsEnd state end
IsOutcome limit state count (Err (Refuted proof)) = ⊥
IsOutcome limit state count (Err (Overflow basis p q i j)) = IsStop limit state count (Overflow basis p q i j)
IsOutcome limit state count (Err (Budget pivots)) = IsStop limit state count (Budget pivots)
IsOutcome limit state count (Err OutOfMemory) = ⊥
