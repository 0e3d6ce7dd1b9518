use Rattle.std.proofs.Common.{List, map, sym, subst₂}
use Rattle.rt_strips.specs.declared.contact.Seam.{Seam}
use Rattle.rt_strips.specs.declared.listing.Strip.{Strip}
use Rattle.rt_strips.specs.Placed.{placed}
use Rattle.rt_strips.specs.Seams.{AreSeamsOf}
use Rattle.rt_vtemplate.proofs.Seams.{seams_tell}
use Rattle.rt_vtemplate.proofs.found.add_standing.Goals as goal

pub returns : goal.returns
returns c =
    seams_tell (map placed c.args.strips.now.list) c.as_slice-2.result.now _ _
    (subst₂ (λ (l : List Strip) (s : List Seam). AreSeamsOf (map placed l) s) c.as_slice.ensures (sym c.as_slice-2.ensures) c.in_ok-found.ensures)
    c.in_ok-add_of_seams.ensures
