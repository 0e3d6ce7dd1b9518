use Rattle.std.proofs.Common.{map}
use Rattle.rt_strips.specs.Placed.{placed}
use Rattle.rt_shapes.proofs.UpperLower.{AreLowersBefore}
use Rattle.rt_shapes.proofs.sides.lower_masks.Given as goal

abbrev pub invariant-loop-i : goal.invariant-loop-i
invariant-loop-i l = AreLowersBefore l.tech (map placed l.strips) l.i l.lowers
