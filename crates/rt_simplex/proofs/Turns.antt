-- A turn of the run.
use Rattle.std.proofs.Common.{◌≡◌, ℕ, ◌+◌, ◌<◌, ◌≤◌, sym, subst, subst₂, arith}
use Rattle.rt_tableau.specs.States.{State, IsSmallTable, exchanged_state}
use Rattle.rt_simplex.specs.Choices.{IsDualPivot}
use Rattle.rt_simplex.specs.Runs.{IsRun}
use Rattle.rt_simplex.specs.Runs.IsRun.{more}

pub run_further : (start state next : State) (from count spent p q : ℕ) → IsRun start from state count → IsDualPivot state p q → next ≡ exchanged_state state p q → IsSmallTable next → spent ≡ count + 1
    → IsRun start from next spent
run_further start state next from count spent p q run dual e small f = subst₂ (λ s n. IsRun start from s n) (sym e) (sym f) (more state count p q run dual (subst IsSmallTable e small))

pub within_further : (count read limit spent : ℕ) → read ≡ count → read < limit → spent ≡ count + 1 → spent ≤ limit
within_further count read limit spent e h f = omega (arith, e, h, f)

pub spent_below : (count read limit : ℕ) → read ≡ count → read < limit → count < limit
spent_below count read limit e h = omega (arith, e, h)
