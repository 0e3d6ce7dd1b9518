use Rattle.std.proofs.Common.{◌≡◌, drop}
use Rattle.std.specs.List.{list_any}
use Rattle.gds_slabs.specs.Polygon.{sides_from, slanted}
use Rattle.gds_slabs.proofs.polygon.goes_slanted.Given as goal

-- what is left of the line decides
abbrev pub invariant-loop-point : goal.invariant-loop-point
invariant-loop-point l = list_any slanted (sides_from l.last (drop l.point-index l.rest)) ≡ list_any slanted (sides_from l.first l.rest)
