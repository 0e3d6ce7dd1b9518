use Rattle.std.proofs.Common.{◌+◌, get_or, map, subst, sym}
use Rattle.rt_base.specs.declared.plane.Rect.{Rect}
use Rattle.rt_base.specs.Plane.{area}
use Rattle.rt_strips.specs.Placed.{placed}
use Rattle.rt_pieces.proofs.Reading.{box_at}
use Rattle.rt_shapes.specs.Cutting.{IsBoxOf}
use Rattle.rt_shapes.proofs.Cutting.{box_more, box_same}
use Rattle.rt_shapes.proofs.boxes.box_of_number.Goals as goal
use Rattle.rt_shapes.proofs.boxes.box_of_number.Goals.{then-has_number, else-has_number}

pub loop-i-preserved : goal.loop-i-preserved
loop-i-preserved c =
    let list = c.args.strips.now in
    let strips = map placed list in
    let m = c.args.m in
    let numbers = c.args.numbers.now in
    let of = c.args.of in
    let i = c.loop-i.i in
    elim c.if-has_number.branch [
      | then-has_number w ↦
          subst (λ (r : Rect). IsBoxOf m strips numbers of (i + 1) (area r)) (sym w.rect-is)
          (box_more m strips numbers of i (area c.loop-i.rect) (area (get_or list i w.index-strips-i.result).at) (area w.joined-rect.result) w.if-has_number.ensures
          (sym (box_at list i w.index-strips-i.result c.loop-i-test.true))
          w.joined-rect.ensures.left w.joined-rect.ensures.right w.joined-rect.ensures.bottom w.joined-rect.ensures.top c.loop-i.invariant)
      | else-has_number w ↦
          subst (λ (r : Rect). IsBoxOf m strips numbers of (i + 1) (area r)) (sym w.rect-is)
          (box_same m strips numbers of i (area c.loop-i.rect) w.if-has_number.ensures c.loop-i.invariant)
    ]
