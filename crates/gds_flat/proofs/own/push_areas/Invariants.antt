use Rattle.std.proofs.Common.{◌≡◌, ◌++◌, map, take}
use Rattle.gds_flat.specs.Building.{area_item}
use Rattle.gds_flat.proofs.own.push_areas.Given as goal

abbrev pub invariant-loop-rect : goal.invariant-loop-rect
invariant-loop-rect l = l.items ≡ l.initial.items ++ map (area_item l.offset l.mask) (take l.rect-index l.rects)
