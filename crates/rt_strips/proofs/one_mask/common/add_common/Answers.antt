use Rattle.std.proofs.Common.{◌≡◌, ◌∙◌, ap, map, arith, w64, FitsSigned, rules}
use Rattle.std.specs.Int.{int_max, int_min}
use Rattle.std.proofs.lemmas.Int.{ints, clamps, to_z-of_z}
use Rattle.std.proofs.lemmas.List.{map-append}
use Rattle.rt_base.specs.Plane.{area}
use Rattle.rt_strips.proofs.Commons.{common_pushed}
use Rattle.rt_strips.proofs.one_mask.common.add_common.Goals as goal
use Rattle.rt_strips.proofs.one_mask.common.add_common.Goals.{then-a-b, else-a-b, then-a-b-2, else-a-b-2}

pub returns-in_ok-push : goal.returns-in_ok-push
returns-in_ok-push c =
    let left : c.if-a-b.x1 ≡ int_max c.args.a.now.x1 c.args.b.now.x1 =
    elim c.if-a-b.branch [ then-a-b w ↦ omega (arith, ints, clamps) | else-a-b w ↦ omega (arith, ints, clamps) ] in
    let right : c.if-a-b-2.x2 ≡ int_min c.args.a.now.x2 c.args.b.now.x2 =
    elim c.if-a-b-2.branch [ then-a-b-2 w ↦ omega (arith, ints, clamps) | else-a-b-2 w ↦ omega (arith, ints, clamps) ] in
    let low : FitsSigned w64 c.args.a.now.y1 = search rules in
    let high : FitsSigned w64 c.args.a.now.y2 = search rules in
    common_pushed (area c.args.a.now) (area c.args.b.now) (map area c.args.into.now.items) (map area c.push.new.self.items) _ _ _ _ (c.if-a-b.x1-is ∙ left) (c.if-a-b-2.x2-is ∙ right)
    (to_z-of_z w64 c.args.a.now.y1 low) (to_z-of_z w64 c.args.a.now.y2 high) (omega (arith, ints)) (ap (map area) c.in_ok-push.ensures.items ∙ map-append area c.args.into.now.items _)
