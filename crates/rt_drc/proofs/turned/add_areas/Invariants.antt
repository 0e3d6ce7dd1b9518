use Rattle.std.proofs.Common.{◌≡◌, ◌++◌, map, take}
use Rattle.rt_base.specs.Plane.{area}
use Rattle.rt_strips.specs.Placed.{placed}
use Rattle.rt_strips.specs.Tallies.{at_mask}
use Rattle.rt_drc.proofs.turned.add_areas.Given as goal

abbrev pub invariant-loop-at : goal.invariant-loop-at
invariant-loop-at l = map placed l.turned.items ≡ map placed l.fn.turned.items ++ map (at_mask l.m) (map area (take l.at-index l.areas))
