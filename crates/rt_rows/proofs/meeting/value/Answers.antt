use Rattle.std.proofs.Common.{Option, w64, FitsSigned, subst, ◌∙◌}
use Rattle.std.proofs.lemmas.Int.{to_z-of_z}
use Rattle.rt_rows.specs.declared.row.Term.{Term}
use Rattle.rt_rows.specs.Places.{places}
use Rattle.rt_rows.specs.Known.{IsSmallTerm, AreSmallFactors}
use Rattle.rt_rows.proofs.Products.{small_fits_64, wide_product}
use Rattle.rt_rows.proofs.meeting.value.Goals as goal

pub returns-in-Some-clause-small : goal.returns-in-Some-clause-small
returns-in-Some-clause-small c =
    let term = c.in-Some.term in
    let at = c.args.at.now in
    let small : AreSmallFactors at term = subst (λ (t : Option Term). IsSmallTerm at t) c.in-Some.is c.requires.small in
    let fits : FitsSigned w64 c.place.result = record { sfits = c.place.type_inv } in
    wide_product c.from.result c.from-in-Some.result term.times (places at term.var)
    (c.from.ensures ∙ to_z-of_z w64 term.times (small_fits_64 term.times small.times))
    (c.from-in-Some.ensures ∙ to_z-of_z w64 c.place.result fits ∙ c.place.ensures) small.times small.place
