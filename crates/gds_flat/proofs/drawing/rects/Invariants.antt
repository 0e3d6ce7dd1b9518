use Rattle.std.proofs.Common.{take}
use Rattle.gds_flat.specs.Drawings.{AreOnMasks}
use Rattle.gds_flat.proofs.drawing.rects.Given as goal

abbrev pub invariant-loop-item : goal.invariant-loop-item
invariant-loop-item l = AreOnMasks (take l.item-index l.items) l.count l.masks.items
