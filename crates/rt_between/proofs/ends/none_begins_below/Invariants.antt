use Rattle.std.proofs.Common.{ℕ, ◌<◌}
use Rattle.rt_between.specs.Ends.{IsHostBelow}
use Rattle.rt_between.proofs.ends.none_begins_below.Given as goal

abbrev pub invariant-loop-k : goal.invariant-loop-k
invariant-loop-k l = (n : ℕ) → n < l.k → ¬ IsHostBelow l.job l.q l.i l.row n
