use Rattle.std.proofs.Common.{All, take}
use Rattle.gds_flat.specs.Elements.{Fine}
use Rattle.gds_flat.specs.Walking.{names_at}
use Rattle.gds_flat.specs.Refused.{elements_along}
use Rattle.gds_flat.proofs.elements.test_all.Given as goal

abbrev pub invariant-loop-structure : goal.invariant-loop-structure
invariant-loop-structure l =
    All (Fine l.tech) (elements_along l.names.structures.now (names_at l.names.structures.now (take l.structure-index l.walk.order.items)))
