use Rattle.std.proofs.Common.{map}
use Rattle.rt_base.specs.Plane.{area}
use Rattle.rt_strips.specs.Placed.{placed}
use Rattle.rt_shapes.specs.Cutting.{IsBoxOf}
use Rattle.rt_shapes.proofs.boxes.box_of_number.Given as goal

abbrev pub invariant-loop-i : goal.invariant-loop-i
invariant-loop-i l = IsBoxOf l.m (map placed l.strips) l.numbers l.of l.i (area l.rect)
