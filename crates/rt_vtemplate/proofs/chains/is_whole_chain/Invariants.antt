use Rattle.std.proofs.Common.{ℕ, ◌<◌}
use Rattle.rt_rows.specs.Places.{places}
use Rattle.rt_vtemplate.specs.Whole.{IsWholeBeside}
use Rattle.rt_vtemplate.proofs.chains.is_whole_chain.Given as goal

abbrev pub invariant-loop-k : goal.invariant-loop-k
invariant-loop-k l = (k : ℕ) → k < l.k → ¬ IsWholeBeside l.job (places l.columns) k l.i l.j
