use Rattle.std.proofs.Common.{map, arith}
use Rattle.std.proofs.lemmas.List.Elements.{AllWithin-more, at_read}
use Rattle.rt_strips.specs.Placed.{placed}
use Rattle.rt_strips.proofs.Placed.{strip_below}
use Rattle.rt_drc.specs.Rows.{cells_of}
use Rattle.rt_drc.proofs.Wide.{IsEnoughAt, seam_at, seam_is, seam_there, narrow_seam_shows, enough_seam_is, shared_seams}
use Rattle.rt_drc.proofs.width.narrow_contact.Goals as goal

pub bounds-rows-seam : goal.bounds-rows-seam
bounds-rows-seam c =
    let rows = c.args.rows.now in
    strip_below rows.strips.now _ (seam_there (map placed rows.strips.now) rows.seams.now c.requires.seams_are c.loop-seam.seam-index (omega arith)).one_mask.first

pub bounds-rows-seam-in-loop-seam : goal.bounds-rows-seam-in-loop-seam
bounds-rows-seam-in-loop-seam c =
    let rows = c.args.rows.now in
    strip_below rows.strips.now _ (seam_there (map placed rows.strips.now) rows.seams.now c.requires.seams_are c.loop-seam.seam-index (omega arith)).one_mask.second

pub returns-in-Some : goal.returns-in-Some
returns-in-Some c =
    let rows = c.args.rows.now in
    narrow_seam_shows (cells_of rows.strips.now) c.args.masks rows.strips.now c.requires.strips_are c.args.m c.args.width.now
    (seam_at rows.seams.now c.loop-seam.seam-index) c.index-rows-seam.result c.index-rows-seam-in-loop-seam.result c.in-Some.witness
    (seam_there (map placed rows.strips.now) rows.seams.now c.requires.seams_are c.loop-seam.seam-index (omega arith)) c.in-Some.ensures

pub loop-seam-preserved : goal.loop-seam-preserved
loop-seam-preserved c =
    let rows = c.args.rows.now in
    let P = IsEnoughAt c.args.m c.args.width.now (map placed rows.strips.now) in
    let i = c.loop-seam.seam-index in
    AllWithin-more P rows.seams.now 0 i c.loop-seam.invariant
    (at_read rows.seams.now P i (seam_at rows.seams.now i) (omega arith) (seam_is rows.seams.now i (omega arith))
    (enough_seam_is c.args.m c.args.width.now rows.strips.now (seam_at rows.seams.now i) c.index-rows-seam.result c.index-rows-seam-in-loop-seam.result
    (seam_there (map placed rows.strips.now) rows.seams.now c.requires.seams_are i (omega arith)) c.in_default.ensures))

pub returns : goal.returns
returns c =
    let rows = c.args.rows.now in
    shared_seams c.args.m c.args.width.now (map placed rows.strips.now) rows.seams.now c.requires.seams_are (λ k d from below. c.loop-seam.invariant k d from (omega arith))
