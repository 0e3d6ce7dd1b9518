use Rattle.std.proofs.Common.{◌≡◌, ◌++◌, map, drop}
use Rattle.rt_base.specs.Plane.{area}
use Rattle.gds_slabs.specs.Path.{square}
use Rattle.gds_slabs.specs.Steps.{AreInReach}
use Rattle.gds_slabs.proofs.areas.push_squares.Given as goal

-- the squares so far, and those of the points that are left
abbrev pub invariant-loop-point : goal.invariant-loop-point
invariant-loop-point l = record {
  listed : map area l.rects ++ map (square l.pen.half) (drop l.point-index l.points) ≡ map area l.initial.rects ++ map (square l.pen.half) l.points;
  near : AreInReach l.initial.rects → AreInReach l.rects;
}
