use Rattle.std.proofs.Common.{List, map, sym, subst}
use Rattle.rt_base.specs.declared.plane.Rect.{Rect}
use Rattle.rt_base.specs.Plane.{area}
use Rattle.rt_cells.specs.Rectangles.{Covers}
use Rattle.rt_strips.specs.OneMask.{AreAllStrips}
use Rattle.rt_drc.proofs.Exchanged.{turned_more, where_ok}
use Rattle.rt_drc.proofs.turned.add_mask.Goals as goal

pub returns : goal.returns
returns c =
    where_ok c.add_areas.result
    (λ added. turned_more c.args.strips.now c.args.m c.args.turned.now.items c.add_areas.new.turned.items c.in_ok-rects.rects.items c.as_slice-2.result.now
    c.requires c.in_ok-rects.ensures
    (subst (λ (xs : List Rect). AreAllStrips (Covers (map area c.in_ok-rects.rects.items)) (map area xs)) (sym c.as_slice-2.ensures.value)
    (subst (λ (xs : List Rect). AreAllStrips (Covers (map area xs)) (map area c.in_ok-areas.areas.items)) c.as_slice.ensures.value c.in_ok-areas.ensures))
    added)
    c.add_areas.ensures
