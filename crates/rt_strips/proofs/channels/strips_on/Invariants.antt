use Rattle.std.proofs.Common.{◌≡◌, map, take}
use Rattle.rt_base.specs.Plane.{area}
use Rattle.rt_strips.specs.Placed.{placed}
use Rattle.rt_strips.specs.Tallies.{at_mask}
use Rattle.rt_strips.proofs.channels.strips_on.Given as goal

abbrev pub invariant-loop-at : goal.invariant-loop-at
invariant-loop-at l = map placed l.strips.items ≡ map (at_mask l.mask) (map area (take l.at-index l.areas))
