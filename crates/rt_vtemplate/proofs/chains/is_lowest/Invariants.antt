use Rattle.std.proofs.Common.{ℕ, ◌<◌}
use Rattle.rt_rows.specs.Places.{places}
use Rattle.rt_vtemplate.specs.Whole.{StandsThere}
use Rattle.rt_vtemplate.proofs.chains.is_lowest.Given as goal

abbrev pub invariant-loop-k : goal.invariant-loop-k
invariant-loop-k l = (k : ℕ) → k < l.k → ¬ StandsThere l.job (places l.columns) l.span.x l.span.u k l.i k
