use Rattle.std.proofs.Common.{w64, FitsSigned, rules, sym, ap}
use Rattle.std.proofs.lemmas.Int.{to_z-of_z}
use Rattle.rt_base.specs.declared.plane.Rect.{Rect}
use Rattle.rt_strips.proofs.Keeping.{raised_at, same_raised}
use Rattle.rt_strips.proofs.one_mask.stack.raise.Goals as goal

pub returns-then-strips-place : goal.returns-then-strips-place
returns-then-strips-place c =
    let strip = c.index-strips-place-then-strips-place.result in
    let is = sym c.index-strips-place-then-strips-place.is in
    let fits : FitsSigned w64 c.args.piece.now.y2 = search rules in
    raised_at c.args.strips.now c.args.place strip _ _ c.if-place-strips.true c.index-strips-place-then-strips-place.is
    (same_raised strip _ _ _ _ _ (ap (λ (r : Rect). r.x1) is) (ap (λ (r : Rect). r.x2) is) (ap (λ (r : Rect). r.y1) is) (to_z-of_z w64 c.args.piece.now.y2 fits))
