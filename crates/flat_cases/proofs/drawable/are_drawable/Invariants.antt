use Rattle.std.proofs.Common.{take, All}
use Rattle.gds_flat.specs.Drawn.{IsDrawable}
use Rattle.flat_cases.proofs.drawable.are_drawable.Given as goal

abbrev pub invariant-loop-element : goal.invariant-loop-element
invariant-loop-element l = All IsDrawable (take l.element-index l.elements)
