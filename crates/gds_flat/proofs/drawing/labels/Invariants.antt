use Rattle.std.proofs.Common.{◌≡◌, take}
use Rattle.gds_flat.specs.Items.{marks_of}
use Rattle.gds_flat.specs.Drawn.{pieces_in}
use Rattle.gds_flat.proofs.drawing.labels.Given as goal

abbrev pub invariant-loop-item : goal.invariant-loop-item
invariant-loop-item l = l.labels ≡ marks_of (pieces_in (take l.item-index l.items))
