use Rattle.std.proofs.Common.{◌≡◌, ◌++◌, take, All}
use Rattle.std.specs.List.{flat_map}
use Rattle.gds_records.specs.Records.{flat}
use Rattle.gds_stream.specs.Written.{shape_records, FitsShape}
use Rattle.gds_stream.proofs.writing.put_shapes.Given as goal

abbrev pub invariant-loop-shape : goal.invariant-loop-shape
invariant-loop-shape l =
    (l.out.items ≡ l.initial.out.items ++ flat (flat_map shape_records (take l.shape-index l.shapes)))
    × All FitsShape (take l.shape-index l.shapes)
