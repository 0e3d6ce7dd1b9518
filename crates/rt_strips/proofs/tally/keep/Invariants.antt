use Rattle.std.proofs.Common.{◌≡◌, ◌≤◌, ◌++◌, length, map, take}
use Rattle.rt_base.specs.Plane.{area}
use Rattle.rt_strips.specs.Placed.{placed}
use Rattle.rt_strips.specs.Tallies.{at_mask}
use Rattle.rt_strips.proofs.tally.keep.Given as goal

abbrev pub invariant-loop-at : goal.invariant-loop-at
invariant-loop-at l =
    length l.fn.list.items ≤ l.most → map placed l.list.items ≡ take l.most (map placed l.fn.list.items ++ map (at_mask l.mask) (map area (take l.at-index l.strips)))
