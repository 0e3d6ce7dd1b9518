use Rattle.gds_slabs.proofs.Paths.{segments_more}
use Rattle.gds_slabs.proofs.areas.push_segments.Goals as goal

pub loop-point-preserved : goal.loop-point-preserved
loop-point-preserved c = record {
  listed = segments_more c.args.pen.now.half c.loop-point.last c.args.rest.now c.loop-point.point-index _ c.loop-point.rects c.push_segment.new.rects _
      c.loop-point-test.true c.in_ok-push_segment.ensures.areas c.loop-point.invariant.listed;
  near = λ h. c.in_ok-push_segment.ensures.near (c.loop-point.invariant.near h);
}
