use Rattle.std.proofs.Common.{◌≡◌, ◌++◌, map, drop}
use Rattle.std.specs.List.{filter}
use Rattle.rt_base.specs.Plane.{area}
use Rattle.gds_slabs.specs.Polygon.{sides_from}
use Rattle.gds_slabs.specs.Path.{segment, has_length}
use Rattle.gds_slabs.specs.Steps.{AreInReach}
use Rattle.gds_slabs.proofs.areas.push_segments.Given as goal

-- the rectangles so far, and those of what is left of the line
abbrev pub invariant-loop-point : goal.invariant-loop-point
invariant-loop-point l = record {
  listed : map area l.rects ++ map (segment l.pen.half) (filter has_length (sides_from l.last (drop l.point-index l.rest)))
      ≡ map area l.initial.rects ++ map (segment l.pen.half) (filter has_length (sides_from l.first l.rest));
  near : AreInReach l.initial.rects → AreInReach l.rects;
}
