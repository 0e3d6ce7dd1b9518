use Rattle.std.proofs.Common.{◌≡◌, map, take}
use Rattle.rt_base.specs.Plane.{area}
use Rattle.rt_strips.specs.Placed.{placed, areas_of}
use Rattle.rt_drc.specs.Rows.{exchanged}
use Rattle.rt_drc.proofs.turned.exchanged_areas.Given as goal

abbrev pub invariant-loop-strip : goal.invariant-loop-strip
invariant-loop-strip l = map area l.rects.items ≡ map exchanged (areas_of l.m (map placed (take l.strip-index l.strips)))
