use Rattle.std.proofs.Common.{ℕ, ◌<◌, ◌≤◌}
use Rattle.rt_rows.specs.Places.{places}
use Rattle.rt_template.specs.Vertical.{LiesBetween}
use Rattle.rt_vtemplate.proofs.sight.one_between.Given as goal

abbrev pub invariant-loop-k : goal.invariant-loop-k
invariant-loop-k l = (k : ℕ) → l.fn.i ≤ k → k < l.k → ¬ LiesBetween l.job (places l.columns) l.i l.j l.x k
