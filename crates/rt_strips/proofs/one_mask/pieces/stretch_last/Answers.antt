use Rattle.std.proofs.Common.{◌≡◌, pos, ◌≤ℤ◌, ◌-◌, ◌<◌, length, get_or, ◌<ℤ◌, w64, FitsSigned, rules, arith, sym, ap, subst}
use Rattle.std.proofs.lemmas.Int.{ints, to_z-of_z}
use Rattle.std.proofs.lemmas.List.{get_or_default}
use Rattle.rt_base.specs.declared.plane.Rect.{Rect}
use Rattle.rt_strips.proofs.Columns.{stretched_at, not_stretched, same_stretched}
use Rattle.rt_strips.proofs.one_mask.pieces.stretch_last.Goals as goal

pub invariant_of-pieces : goal.invariant_of-pieces
invariant_of-pieces c = λ d.
    let last = length c.args.pieces.now - 1 in
    let some : 0 < length c.args.pieces.now = c.requires in
    let there : last < length c.args.pieces.now = omega arith in
    let piece = get_or c.args.pieces.now last d in
    let fits : FitsSigned w64 c.args.at.now.x2 = search rules in
    let same = to_z-of_z w64 c.args.at.now.x2 fits in
    let low : (get_or c.args.pieces.now (length c.args.pieces.now - 1) c.index-pieces-last.result).x2 <ℤ c.args.at.now.x2 = omega (arith, ints) in
    let moved : get_or c.args.pieces.now last c.index-pieces-last.result ≡ piece = get_or_default c.args.pieces.now last c.index-pieces-last.result d there in
    let high : piece.x2 <ℤ c.args.at.now.x2 = subst (λ (r : Rect). r.x2 <ℤ c.args.at.now.x2) moved low in (
      there,
      (
        subst (λ z. piece.x1 <ℤ z) (sym same) (omega (arith, ints, piece.across)),
        (piece.upwards, (piece.from_left, (subst (λ z. z ≤ℤ pos 4611686018427387903) (sym same) c.args.at.now.to_right, (piece.from_bottom, (piece.to_top, tt))))),
      ),
    )

pub returns-then-pieces-last : goal.returns-then-pieces-last
returns-then-pieces-last c =
    let piece = c.index-pieces-last-then-pieces-last.result in
    let is = sym c.index-pieces-last-then-pieces-last.is in
    let fits : FitsSigned w64 c.args.at.now.x2 = search rules in
    let low : (get_or c.args.pieces.now (length c.args.pieces.now - 1) c.index-pieces-last.result).x2 <ℤ c.args.at.now.x2 = omega (arith, ints) in
    stretched_at c.args.pieces.now piece _ c.args.at.now.x2 c.requires c.index-pieces-last-then-pieces-last.is c.index-pieces-last.result low
    (same_stretched piece _ _ _ _ _ (ap (λ (r : Rect). r.x1) is) (to_z-of_z w64 c.args.at.now.x2 fits) (ap (λ (r : Rect). r.y1) is) (ap (λ (r : Rect). r.y2) is))

pub returns-else-pieces-last : goal.returns-else-pieces-last
returns-else-pieces-last c =
    not_stretched c.args.pieces.now c.index-pieces-last.result c.args.at.now.x2 c.requires c.index-pieces-last.is (omega (arith, ints))
