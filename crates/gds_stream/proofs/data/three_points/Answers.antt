use Rattle.gds_stream.proofs.Eights.{tail_of, three}
use Rattle.gds_stream.proofs.data.three_points.Goals as goal

pub returns : goal.returns
returns c = three c.args.bytes.now _ _ _ _ _ c.requires (tail_of c.args.bytes.now 8) (tail_of c.args.bytes.now 16) c.point_of.ensures c.point_of-2.ensures c.point_of-3.ensures
