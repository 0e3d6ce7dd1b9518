use Rattle.gds_slabs.proofs.Paths.{squares_more}
use Rattle.gds_slabs.proofs.Nearness.{near_pushed}
use Rattle.gds_slabs.proofs.areas.push_squares.Goals as goal

pub loop-point-preserved : goal.loop-point-preserved
loop-point-preserved c = record {
  listed = squares_more c.args.pen.now.half c.args.points.now c.loop-point.point-index _ c.loop-point.rects c.push.new.self c.square_rect.result _
      c.loop-point-test.true c.in_ok-push.ensures.ok c.square_rect.ensures.area c.loop-point.invariant.listed;
  near = λ h. near_pushed c.loop-point.rects c.push.new.self c.square_rect.result c.in_ok-push.ensures.ok c.square_rect.ensures.near (c.loop-point.invariant.near h);
}
