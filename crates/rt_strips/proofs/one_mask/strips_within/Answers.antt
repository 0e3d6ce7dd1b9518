use Rattle.std.proofs.Common.{List, map, subst, sym}
use Rattle.std.proofs.lemmas.Result.{IfOk-weaker}
use Rattle.rt_base.specs.Plane.{area}
use Rattle.rt_base.specs.declared.plane.Rect.{Rect}
use Rattle.rt_cells.specs.Rectangles.{Covers}
use Rattle.rt_strips.specs.declared.one_mask.Found.{Found}
use Rattle.rt_strips.specs.OneMask.{AreFirstStrips, CoverTheSame}
use Rattle.rt_strips.proofs.Built.{first_strips_of_same}
use Rattle.rt_strips.proofs.one_mask.strips_within.Goals as goal

pub returns : goal.returns
returns c =
    let rects = c.args.rects.now in
    let merged = c.as_slice.result.now in
    let same : CoverTheSame (map area merged) (map area rects) =
    subst (λ (rs : List Rect). CoverTheSame (map area rs) (map area rects)) (sym c.as_slice.ensures.value) c.in_ok-merged.ensures in
    IfOk-weaker c.swept-2.result
    (λ (found : Found). AreFirstStrips (Covers (map area merged)) c.args.most (map area found.strips.items) found.count)
    (λ (found : Found). AreFirstStrips (Covers (map area rects)) c.args.most (map area found.strips.items) found.count)
    (λ found. first_strips_of_same (Covers (map area merged)) (Covers (map area rects)) same c.args.most (map area found.strips.items) found.count)
    c.swept-2.ensures
