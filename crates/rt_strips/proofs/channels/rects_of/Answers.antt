use Rattle.std.proofs.Common.{◌≡◌, ◌<◌, ◌+◌, ◌++◌, List, length, sym, ap, subst, ◌∙◌, arith}
use Rattle.rt_base.specs.declared.plane.Rect.{Rect}
use Rattle.rt_layout.specs.Covering.{rectangles_of}
use Rattle.rt_strips.specs.Roles.{AreOfRole}
use Rattle.rt_strips.proofs.Roles.{one_more_of_role, one_more_of_none, shapes_read, mask_read}
use Rattle.rt_strips.proofs.channels.rects_of.Goals as goal

pub loop-m-preserved : goal.loop-m-preserved
loop-m-preserved c =
    let layout = c.args.layout.now in
    let tech = c.args.tech.now in
    let m = c.loop-m.m in
    let below : m < length tech.masks = omega (arith, ap length c.as_slice-masks.ensures) in
    let list : c.as_slice.result.now ≡ rectangles_of layout m =
    c.as_slice.ensures ∙ shapes_read layout c.as_slice-shapes.result.now m c.index-shapes-m.result c.as_slice-shapes.ensures (omega (arith, below, c.requires)) c.index-shapes-m.is in
    subst (λ (l : List Rect). AreOfRole layout tech (m + 1) c.args.role l) (sym (c.in_ok-extend_from_slice.ensures.items ∙ ap (λ l. c.loop-m.rects.items ++ l) list))
    (one_more_of_role layout tech m c.args.role c.loop-m.rects.items c.index-masks-m.result below
    (mask_read tech c.as_slice-masks.result.now m c.index-masks-m.result c.as_slice-masks.ensures c.index-masks-m.is) c.if-not-has_role.ensures c.loop-m.invariant)

pub loop-m-preserved-then-not-has_role : goal.loop-m-preserved-then-not-has_role
loop-m-preserved-then-not-has_role c =
    let tech = c.args.tech.now in
    let m = c.loop-m.m in
    let below : m < length tech.masks = omega (arith, ap length c.as_slice-masks.ensures) in
    one_more_of_none c.args.layout.now tech m c.args.role c.loop-m.rects.items c.index-masks-m.result below
    (mask_read tech c.as_slice-masks.result.now m c.index-masks-m.result c.as_slice-masks.ensures c.index-masks-m.is) c.if-not-has_role.ensures c.loop-m.invariant
