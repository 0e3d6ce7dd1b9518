use Rattle.std.proofs.Common.{ℕ, ◌<◌, ◌≤◌}
use Rattle.rt_rows.specs.Places.{places}
use Rattle.rt_template.specs.Vertical.{IsChain}
use Rattle.rt_vtemplate.specs.Whole.{StandsThere}
use Rattle.rt_vtemplate.proofs.chains.+is_chain.Given as goal

abbrev pub decreases-is_chain : goal.decreases-is_chain
decreases-is_chain l = l.j

abbrev pub invariant-loop-k : goal.invariant-loop-k
invariant-loop-k l =
    (k : ℕ) → l.i ≤ k → k < l.k → StandsThere l.job (places l.columns) l.span.x l.span.u k l.j k → ¬ IsChain l.job (places l.columns) l.span.x l.span.u l.i k
