use Rattle.std.proofs.Common.{arith}
use Rattle.gds_stream.specs.Contents.{points_in}
use Rattle.gds_stream.proofs.Eights.{tail_of, points_go_on}
use Rattle.gds_stream.proofs.data.listed.Goals as goal

pub loop-rest-preserved : goal.loop-rest-preserved
loop-rest-preserved c =
    rw (c.in_ok-push.ensures.items, tail_of c.loop-rest.rest.now 8)
    (points_go_on c.loop-rest.points.items c.loop-rest.rest.now c.point_of.result (points_in c.args.bytes.now) (omega arith) c.point_of.ensures c.loop-rest.invariant)
