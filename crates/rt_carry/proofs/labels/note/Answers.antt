use Rattle.std.proofs.Common.{rules, ℤ, map, w16, w32, FitsSigned, ap, ◌∙◌}
use Rattle.std.proofs.lemmas.Int.{to_z-of_z}
use Rattle.rt_rows.specs.Places.{places}
use Rattle.rt_strips.specs.Placed.{placed}
use Rattle.rt_carry.proofs.Touched.{note_is}
use Rattle.rt_carry.proofs.labels.note.Goals as goal

pub returns : goal.returns
returns c =
    let pair = c.pair_of-pair.result in
    let place = c.corner-place.result in
    let layer : FitsSigned w16 pair.0 = search rules in
    let texttype : FitsSigned w16 pair.1 = search rules in
    let x : FitsSigned w32 place.0 = search rules in
    let y : FitsSigned w32 place.1 = search rules in
    note_is c.args.target.now (map placed c.args.strips.now) (places c.args.at.now) c.args.label.now c.first_touched-strip.result _ _ _ _ c.in_ok-text.text
    c.first_touched-strip.ensures
    (to_z-of_z w16 pair.0 layer ∙ ap (λ (p : ℤ × ℤ). p.0) c.pair_of-pair.ensures)
    (to_z-of_z w16 pair.1 texttype ∙ ap (λ (p : ℤ × ℤ). p.1) c.pair_of-pair.ensures)
    (to_z-of_z w32 place.0 x ∙ ap (λ (p : ℤ × ℤ). p.0) c.corner-place.ensures)
    (to_z-of_z w32 place.1 y ∙ ap (λ (p : ℤ × ℤ). p.1) c.corner-place.ensures)
    c.in_ok-text.ensures
