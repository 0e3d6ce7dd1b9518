use Rattle.std.proofs.Common.{ℕ, ◌<◌, map}
use Rattle.rt_strips.specs.Placed.{placed}
use Rattle.rt_shapes.specs.Sides.{HasUpper}
use Rattle.rt_shapes.proofs.sides.check_upper.Given as goal

abbrev pub invariant-loop-i : goal.invariant-loop-i
invariant-loop-i l = (k : ℕ) → k < l.i → HasUpper l.tech (map placed l.strips) k
