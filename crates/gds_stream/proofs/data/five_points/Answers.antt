use Rattle.gds_stream.proofs.Eights.{tail_of, five}
use Rattle.gds_stream.proofs.data.five_points.Goals as goal

pub returns : goal.returns
returns c = five c.args.bytes.now _ _ _ _ _ _ _ _ _ c.requires (tail_of c.args.bytes.now 8) (tail_of c.args.bytes.now 16) (tail_of c.args.bytes.now 24) (tail_of c.args.bytes.now 32)
    c.point_of.ensures c.point_of-2.ensures c.point_of-3.ensures c.point_of-4.ensures c.point_of-5.ensures
