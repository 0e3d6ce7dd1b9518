use Rattle.std.proofs.Common.{All, take}
use Rattle.gds_flat.specs.Items.{DrawingIsNear}
use Rattle.gds_flat.specs.Drawn.{pieces_in}
use Rattle.gds_flat.proofs.drawing.first_far.Given as goal

abbrev pub invariant-loop-item : goal.invariant-loop-item
invariant-loop-item l = All (λ p. DrawingIsNear p.drawing) (pieces_in (take l.item-index l.items))
