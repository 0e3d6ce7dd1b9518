use Rattle.std.proofs.Common.{get_or, map, sym, subst, ◌∙◌}
use Rattle.std.proofs.lemmas.List.Elements.{AllWithin-more}
use Rattle.rt_base.specs.Plane.{area}
use Rattle.rt_strips.specs.declared.contact.Seam.{Seam}
use Rattle.rt_strips.specs.Placed.{placed}
use Rattle.rt_strips.proofs.Placed.{strip_below}
use Rattle.rt_pieces.specs.Members.{IsOf, box_of}
use Rattle.rt_drc.specs.Cornering.{IsCornerOf, HasNoCorner}
use Rattle.rt_pieces.proofs.Reading.{box_at, on_mask, off_mask, seam_at}
use Rattle.rt_drc.proofs.Cornered.{corner_shows, read_no_corner, read_other_mask, no_corners}
use Rattle.rt_drc.proofs.corners.corner_contact.Goals as goal
use Rattle.rt_drc.proofs.corners.corner_contact.Goals.{then-lower-m+in_default, else-lower-m}

abbrev none : Seam
none = record { below = 0; above = 0 }

pub bounds-rows-seam : goal.bounds-rows-seam
bounds-rows-seam c =
    strip_below c.args.rows.now.strips.now _ (seam_at (map placed c.args.rows.now.strips.now) c.args.rows.now.seams.now c.requires.seams c.loop-seam.seam-index none c.loop-seam-test.true).one_mask.first

pub bounds-rows-seam-in-loop-seam : goal.bounds-rows-seam-in-loop-seam
bounds-rows-seam-in-loop-seam c =
    strip_below c.args.rows.now.strips.now _ (seam_at (map placed c.args.rows.now.strips.now) c.args.rows.now.seams.now c.requires.seams c.loop-seam.seam-index none c.loop-seam-test.true).one_mask.second

pub returns-in-Some : goal.returns-in-Some
returns-in-Some c =
    let strips = c.args.rows.now.strips.now in
    let s = seam_at (map placed strips) c.args.rows.now.seams.now c.requires.seams c.loop-seam.seam-index none c.loop-seam-test.true in
    let seam = get_or c.args.rows.now.seams.now c.loop-seam.seam-index none in
    let first = strip_below strips seam.below s.one_mask.first in
    let of = on_mask strips seam.below c.index-rows-seam.result c.args.m first c.if-lower-m.true in
    corner_shows (IsOf c.args.m (map placed strips)) (box_of (map placed strips)) c.requires.family seam.below seam.above of
    (record { strip = s.one_mask.second; mask = sym s.one_mask.one_mask ∙ of.mask }) s.adjoin c.in-Some.corner
    (subst (λ r. IsCornerOf r (box_of (map placed strips) seam.above) c.in-Some.corner) (sym (box_at strips seam.below c.index-rows-seam.result first))
    (subst (λ r. IsCornerOf (area (get_or strips seam.below c.index-rows-seam.result).at) r c.in-Some.corner)
    (sym (box_at strips seam.above c.index-rows-seam-in-loop-seam.result (strip_below strips seam.above s.one_mask.second))) c.in-Some.ensures))

pub loop-seam-preserved : goal.loop-seam-preserved
loop-seam-preserved c =
    let strips = c.args.rows.now.strips.now in
    let seams = c.args.rows.now.seams.now in
    let first = strip_below strips (get_or seams c.loop-seam.seam-index none).below
    (seam_at (map placed strips) seams c.requires.seams c.loop-seam.seam-index none c.loop-seam-test.true).one_mask.first in
    AllWithin-more (λ (seam : Seam). HasNoCorner c.args.m (map placed strips) seam.below seam.above) seams 0 c.loop-seam.seam-index c.loop-seam.invariant
    (λ d. elim c.if-lower-m.branch [
      | then-lower-m+in_default w ↦ read_no_corner c.args.m strips seams c.requires.seams c.loop-seam.seam-index none d c.loop-seam-test.true _ _ w.in_default.ensures
      | else-lower-m w ↦
          read_other_mask c.args.m strips seams c.requires.seams c.loop-seam.seam-index none d c.loop-seam-test.true
          (off_mask strips (get_or seams c.loop-seam.seam-index none).below c.index-rows-seam.result c.args.m first w.if-lower-m.false)
    ])

pub returns : goal.returns
returns c =
    no_corners c.args.m c.args.rows.now.strips.now c.args.rows.now.seams.now c.loop-seam.seam-index c.requires.family c.requires.seams c.loop-seam-test.false c.loop-seam.invariant
