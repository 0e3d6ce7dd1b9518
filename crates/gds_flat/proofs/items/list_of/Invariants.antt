use Rattle.std.proofs.Common.{take}
use Rattle.gds_flat.specs.Drawn.{pieces_in}
use Rattle.gds_flat.specs.Building.{AreFrom}
use Rattle.gds_flat.proofs.items.list_of.Given as goal

abbrev pub invariant-loop-element : goal.invariant-loop-element
invariant-loop-element l = AreFrom l.names.structures.now l.tech (take l.element-index l.elements) (pieces_in l.list)
