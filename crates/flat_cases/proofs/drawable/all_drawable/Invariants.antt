use Rattle.std.proofs.Common.{take}
use Rattle.gds_flat.specs.Drawn.{AreDrawable}
use Rattle.flat_cases.proofs.drawable.all_drawable.Given as goal

abbrev pub invariant-loop-structure : goal.invariant-loop-structure
invariant-loop-structure l = AreDrawable (take l.structure-index l.structures)
