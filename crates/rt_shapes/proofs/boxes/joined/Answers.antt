use Rattle.rt_shapes.proofs.Boxing.{side_fits, left_side, right_side, bottom_side, top_side, lesser_side, greater_side, spans_kept, low_kept, high_kept}
use Rattle.rt_shapes.proofs.boxes.joined.Goals as goal

pub invariant_of-result : goal.invariant_of-result
invariant_of-result c =
    let a = c.args.a.now in
    let b = c.args.b.now in
    let left = lesser_side a.x1 b.x1 c.lesser.result (left_side a) (left_side b) c.lesser.ensures in
    let bottom = lesser_side a.y1 b.y1 c.lesser-2.result (bottom_side a) (bottom_side b) c.lesser-2.ensures in
    let right = greater_side a.x2 b.x2 c.greater.result (right_side a) (right_side b) c.greater.ensures in
    let top = greater_side a.y2 b.y2 c.greater-2.result (top_side a) (top_side b) c.greater-2.ensures in
    record {
      across = spans_kept a.x1 b.x1 a.x2 b.x2 c.lesser.result c.greater.result _ _ a.across c.lesser.ensures c.greater.ensures (side_fits c.lesser.result left) (side_fits c.greater.result right);
      upwards = spans_kept a.y1 b.y1 a.y2 b.y2 c.lesser-2.result c.greater-2.result _ _ a.upwards c.lesser-2.ensures c.greater-2.ensures (side_fits c.lesser-2.result bottom)
          (side_fits c.greater-2.result top);
      from_left = low_kept _ c.lesser.result (side_fits c.lesser.result left) left;
      to_right = high_kept _ c.greater.result (side_fits c.greater.result right) right;
      from_bottom = low_kept _ c.lesser-2.result (side_fits c.lesser-2.result bottom) bottom;
      to_top = high_kept _ c.greater-2.result (side_fits c.greater-2.result top) top;
    }
