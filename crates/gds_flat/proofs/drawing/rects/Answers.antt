use Rattle.gds_flat.proofs.DrawingMasks.{rect_none, rect_pushed, mask_low}
use Rattle.gds_flat.proofs.drawing.rects.Goals as goal
use Rattle.gds_flat.proofs.drawing.rects.Goals.{in-Area+in_ok-push, in_default}

pub loop-item-preserved : goal.loop-item-preserved
loop-item-preserved c = elim c.match-item.branch [
  | in-Area+in_ok-push w ↦
      rw (w.masks-is)
      (rect_pushed c.args.items.now c.args.count c.loop-item.item-index c.item-item.result w.in-Area.rect w.index_mut.result.now w.push.new.self c.loop-item.masks.items
      c.loop-item-test.true c.item-item.is w.in-Area.is
      (mask_low c.args.items.now c.args.count c.loop-item.item-index c.item-item.result c.loop-item-test.true c.item-item.is c.requires)
      c.loop-item.invariant w.index_mut.ensures.value w.in_ok-push.ensures.ok)
  | in_default w ↦
      rw (w.masks-is)
      (rect_none c.args.items.now c.args.count c.loop-item.item-index c.item-item.result w.in_default.field-0 w.in_default.field-1 c.loop-item.masks.items
      c.loop-item-test.true c.item-item.is w.in_default.is c.loop-item.invariant)
]
