use Rattle.std.proofs.Common.{rules, pos, ◌+ℤ◌, sym, ap, subst, ◌∙◌, to_z, of_z, FitsSigned}
use mir.Syntax.{w128}
use Rattle.std.proofs.lemmas.Int.{to_z-of_z}
use Rattle.rt_frac.specs.Fracs.{IsCeiling}
use Rattle.rt_frac.proofs.Euclid.{quotient_is, rest_is, zero_is, ceiling_whole, ceiling_part}
use Rattle.rt_frac.proofs.frac.Frac.ceil.Goals as goal

pub returns-then-rem_euclid-eq0 : goal.returns-then-rem_euclid-eq0
returns-then-rem_euclid-eq0 c =
    let f = c.args.self.now in
    let num : FitsSigned w128 f.num = search rules in
    let den : FitsSigned w128 f.den = search rules in
    let r = rest_is f.num f.den c.rem_euclid.result num den c.rem_euclid.ensures.value in
    ceiling_whole f _ c.requires.positive (quotient_is f.num f.den c.div_euclid-floor.result num den (record { sfits = c.div_euclid-floor.type_inv }) c.div_euclid-floor.ensures)
    (sym r ∙ zero_is c.rem_euclid.result (record { sfits = c.rem_euclid.type_inv }) c.if-rem_euclid-eq0.true)

pub returns-else-rem_euclid-eq0 : goal.returns-else-rem_euclid-eq0
returns-else-rem_euclid-eq0 c =
    let f = c.args.self.now in
    let num : FitsSigned w128 f.num = search rules in
    let den : FitsSigned w128 f.den = search rules in
    let r = rest_is f.num f.den c.rem_euclid.result num den c.rem_euclid.ensures.value in
    let q = c.div_euclid-floor.result in
    let whole : FitsSigned w128 q = record { sfits = c.div_euclid-floor.type_inv } in
    let more : FitsSigned w128 (q +ℤ pos 1) = search rules in
    let e = to_z-of_z w128 q whole in
    let known = ceiling_part f q c.requires.positive (sym e ∙ quotient_is f.num f.den q num den whole c.div_euclid-floor.ensures) (λ h. c.if-rem_euclid-eq0.false (ap (of_z w128) (r ∙ h))) in
    subst (IsCeiling f) (sym ((λ i. to_z w128 (of_z w128 (e i +ℤ pos 1))) ∙ to_z-of_z w128 (q +ℤ pos 1) more)) known
