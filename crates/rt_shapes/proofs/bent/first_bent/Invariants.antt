use Rattle.std.proofs.Common.{map}
use Rattle.std.specs.List.{AllWithin}
use Rattle.rt_strips.specs.declared.contact.Seam.{Seam}
use Rattle.rt_strips.specs.Placed.{placed}
use Rattle.rt_shapes.specs.Cutting.{IsBentAt}
use Rattle.rt_shapes.proofs.bent.first_bent.Given as goal

abbrev pub invariant-loop-seam : goal.invariant-loop-seam
invariant-loop-seam l = AllWithin (λ (seam : Seam). ¬ IsBentAt l.tech (map placed l.strips) seam) l.seams 0 l.seam-index
