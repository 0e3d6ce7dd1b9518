use Rattle.std.proofs.Common.{◌≡◌, ◌++◌, map, take}
use Rattle.gds_flat.specs.Items.{piece_moved}
use Rattle.gds_flat.specs.Drawn.{pieces_in}
use Rattle.gds_flat.proofs.placing.push_moved.Given as goal

abbrev pub invariant-loop-item : goal.invariant-loop-item
invariant-loop-item l = pieces_in l.items ≡ pieces_in l.initial.items ++ map (piece_moved l.step) (pieces_in (take l.item-index l.inner))
