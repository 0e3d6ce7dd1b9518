use Rattle.std.proofs.Common.{◌≡◌, ◌∙◌, ◌++◌, List, map, ap, sym, subst, ◌<◌, length, drop, arith}
use Rattle.std.proofs.lemmas.List.{take-append-drop, append-nil, nil_from_length}
use Rattle.rt_base.specs.Plane.{area}
use Rattle.rt_base.specs.declared.plane.Rect.{Rect}
use Rattle.rt_strips.specs.OneMask.{CoverTheSame}
use Rattle.rt_strips.proofs.Parts.{one_part, in_another_order}
use Rattle.rt_strips.proofs.one_mask.parts.merged_by_parts.Goals as goal

pub loop-rest-init : goal.loop-rest-init
loop-rest-init c =
    let ordered = c.in_ok-ordered.ordered.items in
    let rest = c.as_slice-rest.result.now in
    subst (λ (rs : List Rect). CoverTheSame (map area rs) (map area c.args.rects.now))
    (sym (ap (λ (rs : List Rect). rs ++ rest) c.new-merged.ensures.items ∙ c.as_slice-rest.ensures.value)) (in_another_order c.args.rects.now ordered c.in_ok-ordered.ensures)

pub loop-rest-smaller : goal.loop-rest-smaller
loop-rest-smaller c =
    let more : 0 < length c.loop-rest.rest.now = grind (arith, c.loop-rest-test.ensures) in
    omega (arith, more, c.min.ensures, c.split_at.ensures.back_len)

pub loop-rest-preserved : goal.loop-rest-preserved
loop-rest-preserved c =
    let rest = c.loop-rest.rest.now in
    let part = c.split_at.result.0.now in
    let later = c.split_at.result.1.now in
    let parts : rest ≡ part ++ later =
    sym (take-append-drop c.min.result rest) ∙ ap (λ (rs : List Rect). rs ++ drop c.min.result rest) (sym c.split_at.ensures.front) ∙ ap (λ (rs : List Rect). part ++ rs) (sym c.split_at.ensures.back) in
    one_part c.args.rects.now c.loop-rest.merged.items rest c.add_part.new.merged.items part later parts c.loop-rest.invariant c.in_ok-add_part.ensures

pub returns : goal.returns
returns c =
    let none : length c.loop-rest.rest.now ≡ 0 = grind (arith, c.loop-rest-test.ensures) in
    let empty = nil_from_length c.loop-rest.rest.now none in
    subst (λ (rs : List Rect). CoverTheSame (map area rs) (map area c.args.rects.now)) (ap (λ (rs : List Rect). c.loop-rest.merged.items ++ rs) empty ∙ append-nil c.loop-rest.merged.items)
    c.loop-rest.invariant
