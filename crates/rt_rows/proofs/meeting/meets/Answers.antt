use Rattle.std.proofs.Common.{rules, ◌≡◌, ◌+ℤ◌, length, sym, FitsSigned, w64, ◌∙◌, None}
use mir.Syntax.{w128}
use Rattle.std.proofs.lemmas.Int.{to_z-of_z}
use Rattle.rt_rows.specs.Places.{places}
use Rattle.rt_rows.proofs.Products.{wide_sum, three_terms, tells}
use Rattle.rt_rows.proofs.meeting.meets.Goals as goal

pub returns : goal.returns
returns c =
    let at = places c.args.at.now in
    let row = c.args.row.now in
    let three : length row.terms ≡ 3 = search rules in
    let fits : FitsSigned w64 row.least = search rules in
    let wide : FitsSigned w128 c.from.result = record { sfits = c.from.type_inv } in
    let u = c.value-first.result in
    let v = c.value-second.result in
    let w = c.value-third.result in
    tells at row _ _ (to_z-of_z w128 c.from.result wide ∙ c.from.ensures ∙ to_z-of_z w64 row.least fits)
    (wide_sum u v w c.value-first.ensures.small c.value-second.ensures.small c.value-third.ensures.small
    ∙ (λ i. (c.value-first.ensures.value i +ℤ c.value-second.ensures.value i) +ℤ c.value-third.ensures.value i)
    ∙ sym (three_terms at row.terms None three))
