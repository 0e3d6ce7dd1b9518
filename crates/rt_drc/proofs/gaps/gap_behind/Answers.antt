use Rattle.std.proofs.Common.{ap, map, pos, ◌-ℤ◌, subst, sym, ◌∙◌}
use Rattle.std.proofs.lemmas.List.{length-map}
use Rattle.std.specs.Int.{int_max}
use Rattle.rt_cells.specs.Rectangles.{Rectangle}
use Rattle.rt_strips.specs.Placed.{placed}
use Rattle.rt_strips.proofs.Placed.{strip_below}
use Rattle.rt_drc.specs.Cornering.{IsShownAt}
use Rattle.rt_drc.specs.Following.{IsNextBefore}
use Rattle.rt_pieces.proofs.Reading.{box_at}
use Rattle.rt_drc.proofs.Gapped.{gap_shown}
use Rattle.rt_drc.proofs.gaps.gap_behind.Goals as goal

pub returns : goal.returns
returns c =
    let strips = c.args.strips.now in
    let i = c.args.pair.now.first in
    let j = c.args.pair.now.second in
    let k = c.next_strip-next.result in
    let cell = c.cell_behind-begin.result in
    let a = box_at strips i c.index-strips-pair.result (strip_below strips i c.requires.pair.first.strip) in
    let b = box_at strips j c.index-strips-pair-2.result (strip_below strips j c.requires.pair.second.strip) in
    let e = box_at strips k c.index-strips-next.result (strip_below strips k c.next_strip-next.ensures.after.strip) in
    gap_shown c.args.m c.args.reach.now.across (map placed strips) c.requires.family i j k c.requires.pair cell
    (c.cell_behind-begin.ensures.column ∙ sym (ap (λ (r : Rectangle). r.right) a))
    (c.cell_behind-begin.ensures.row ∙ sym (λ t. int_max (a t).bottom (b t).bottom))
    (subst (λ n. IsNextBefore c.args.m cell (map placed strips) n k) (sym (length-map strips placed)) c.next_strip-next.ensures)
    c.gap_before.result
    (subst (λ (r : Rectangle). IsShownAt (cell.x -ℤ pos 1) cell.y r.left cell.y (r.left -ℤ cell.x) c.gap_before.result) (sym e) c.gap_before.ensures)
