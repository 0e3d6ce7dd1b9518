use Rattle.std.proofs.Common.{map}
use Rattle.std.specs.List.{AllWithin}
use Rattle.rt_strips.specs.Placed.{placed}
use Rattle.rt_drc.proofs.Wide.{IsEnoughAt}
use Rattle.rt_drc.proofs.width.narrow_contact.Given as goal

abbrev pub invariant-loop-seam : goal.invariant-loop-seam
invariant-loop-seam l = AllWithin (IsEnoughAt l.m l.width (map placed l.rows.strips.now)) l.rows.seams.now 0 l.seam-index
