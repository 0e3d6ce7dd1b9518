use Rattle.std.proofs.Common.{◌≡◌, map, take}
use Rattle.rt_rows.specs.Places.{places}
use Rattle.rt_strips.specs.Placed.{placed}
use Rattle.rt_template.specs.Drawing.{drawn}
use Rattle.rt_carry.specs.Shapes.{shape_of}
use Rattle.rt_carry.proofs.drawing.shapes.Given as goal

abbrev pub invariant-loop-i : goal.invariant-loop-i
invariant-loop-i l = l.list ≡ map (shape_of l.target) (take l.i (drawn l.target.grid (places l.at) (map placed l.strips)))
