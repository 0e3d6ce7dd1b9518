use Rattle.std.proofs.Common.{◌∙◌}
use Rattle.gds_flat.proofs.DrawingMasks.{label_none, label_pushed}
use Rattle.gds_flat.proofs.drawing.labels.Goals as goal
use Rattle.gds_flat.proofs.drawing.labels.Goals.{in-Note+in_ok-copy+in_ok-push, in_default}

pub loop-item-preserved : goal.loop-item-preserved
loop-item-preserved c = elim c.match-item.branch [
  | in-Note+in_ok-copy+in_ok-push w ↦
      label_pushed c.args.items.now c.loop-item.item-index c.item-item.result w.in-Note.at w.in-Note.text w.in_ok-copy.field-0 c.loop-item.labels
      c.match-item.labels c.loop-item-test.true c.item-item.is w.in-Note.is c.loop-item.invariant w.in_ok-copy.ensures (w.labels-is ∙ w.in_ok-push.ensures.ok)
  | in_default w ↦
      rw (w.labels-is)
      (label_none c.args.items.now c.loop-item.item-index c.item-item.result w.in_default.field-0 c.loop-item.labels c.loop-item-test.true c.item-item.is w.in_default.is
      c.loop-item.invariant)
]
