use Rattle.std.proofs.Common.{◌≡◌, ◌+◌, ◌≤◌, length, drop}
use Rattle.std.specs.List.{filter}
use Rattle.gds_slabs.specs.Polygon.{sides_from}
use Rattle.gds_slabs.specs.Path.{has_length}
use Rattle.gds_slabs.proofs.areas.segment_count.Given as goal

-- the count so far, and the segments of what is left of the line
abbrev pub invariant-loop-point : goal.invariant-loop-point
invariant-loop-point l = record {
  small : l.count ≤ l.point-index;
  counted : l.count + length (filter has_length (sides_from l.last (drop l.point-index l.rest))) ≡ length (filter has_length (sides_from l.first l.rest));
}
