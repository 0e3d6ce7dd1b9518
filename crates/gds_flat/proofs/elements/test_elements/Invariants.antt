use Rattle.std.proofs.Common.{All, take}
use Rattle.gds_flat.specs.Elements.{Fine}
use Rattle.gds_flat.proofs.elements.test_elements.Given as goal

abbrev pub invariant-loop-element : goal.invariant-loop-element
invariant-loop-element l = All (Fine l.tech) (take l.element-index l.elements)
