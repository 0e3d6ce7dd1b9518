use Rattle.std.proofs.Common.{map}
use Rattle.std.specs.List.{AllWithin}
use Rattle.rt_strips.specs.Placed.{placed}
use Rattle.rt_strips.specs.declared.contact.Seam.{Seam}
use Rattle.rt_drc.specs.Cornering.{HasNoCorner}
use Rattle.rt_drc.proofs.corners.corner_contact.Given as goal

abbrev pub invariant-loop-seam : goal.invariant-loop-seam
invariant-loop-seam l = AllWithin (λ (seam : Seam). HasNoCorner l.m (map placed l.rows.strips.now) seam.below seam.above) l.rows.seams.now 0 l.seam-index
