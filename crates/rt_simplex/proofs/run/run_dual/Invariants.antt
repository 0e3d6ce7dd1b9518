use Rattle.std.proofs.Common.{◌≤◌, ◌-◌}
use Rattle.rt_simplex.specs.Runs.{IsRun}
use Rattle.rt_simplex.proofs.run.run_dual.Given as goal

abbrev pub invariant-loop-alloc : goal.invariant-loop-alloc
invariant-loop-alloc l = IsRun l.fn.table l.fn.pivots l.table l.pivots × (l.pivots ≤ l.limit)

abbrev pub decreases-loop-alloc : goal.decreases-loop-alloc
decreases-loop-alloc l = l.limit - l.pivots
