use Rattle.std.proofs.Common.{ℕ, ◌<◌}
use Rattle.rt_between.specs.Ends.{IsHostAbove}
use Rattle.rt_between.proofs.ends.none_ends_above.Given as goal

abbrev pub invariant-loop-k : goal.invariant-loop-k
invariant-loop-k l = (n : ℕ) → n < l.k → ¬ IsHostAbove l.job l.q l.i l.row n
