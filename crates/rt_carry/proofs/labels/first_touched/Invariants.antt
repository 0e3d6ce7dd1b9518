use Rattle.std.proofs.Common.{ℕ, ◌<◌, map}
use Rattle.rt_strips.specs.Placed.{placed}
use Rattle.rt_carry.specs.Texts.{TouchesAt}
use Rattle.rt_carry.proofs.labels.first_touched.Given as goal

abbrev pub invariant-loop-i : goal.invariant-loop-i
invariant-loop-i l = (k : ℕ) → k < l.i → ¬ TouchesAt (map placed l.strips) l.label k
