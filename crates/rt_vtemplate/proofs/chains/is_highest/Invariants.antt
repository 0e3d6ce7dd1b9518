use Rattle.std.proofs.Common.{ℕ, ◌<◌, ◌≤◌}
use Rattle.rt_rows.specs.Places.{places}
use Rattle.rt_vtemplate.specs.Whole.{StandsThere}
use Rattle.rt_vtemplate.proofs.chains.is_highest.Given as goal

abbrev pub invariant-loop-k : goal.invariant-loop-k
invariant-loop-k l = (k : ℕ) → l.j ≤ k → k < l.k → ¬ StandsThere l.job (places l.columns) l.span.x l.span.u l.j k k
