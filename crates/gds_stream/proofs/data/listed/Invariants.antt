use Rattle.std.proofs.Common.{◌≡◌, ◌++◌, length}
use Rattle.gds_stream.specs.Contents.{points_in}
use Rattle.gds_stream.proofs.data.listed.Given as goal

abbrev pub invariant-loop-rest : goal.invariant-loop-rest
invariant-loop-rest l = l.points.items ++ points_in l.rest ≡ points_in l.bytes

abbrev pub decreases-loop-rest : goal.decreases-loop-rest
decreases-loop-rest l = length l.rest
