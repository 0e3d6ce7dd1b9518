use Rattle.std.proofs.Common.{map, take}
use Rattle.rt_base.specs.Plane.{area}
use Rattle.rt_cells.specs.Rectangles.{Covers}
use Rattle.rt_layout.proofs.layout.covered.Given as goal

abbrev pub invariant-loop-rectangle : goal.invariant-loop-rectangle
invariant-loop-rectangle l = Covers (map area (take l.rectangle-index l.rectangles)) l.cell.x l.cell.y → ⊥
