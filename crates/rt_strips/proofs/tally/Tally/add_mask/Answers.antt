use Rattle.std.proofs.Common.{map, List, sym, subst}
use Rattle.rt_base.specs.declared.plane.Rect.{Rect}
use Rattle.rt_base.specs.Plane.{area}
use Rattle.rt_cells.specs.Rectangles.{Covers}
use Rattle.rt_strips.specs.OneMask.{AreFirstStrips}
use Rattle.rt_strips.proofs.Kept.{mask_added}
use Rattle.rt_strips.proofs.tally.Tally.add_mask.Goals as goal

pub returns : goal.returns
returns c =
    mask_added (Covers (map area c.args.rects.now)) c.args.mask c.args.most c.args.self.now _ c.as_slice.result.now c.in_ok-found.found.count
    (subst (λ (l : List Rect). AreFirstStrips (Covers (map area c.args.rects.now)) c.args.most (map area l) c.in_ok-found.found.count) (sym c.as_slice.ensures.value) c.in_ok-found.ensures)
    c.in_ok-keep.ensures c.saturating_add-self.ensures
