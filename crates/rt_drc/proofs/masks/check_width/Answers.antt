use Rattle.std.proofs.Common.{◌≡◌, MatchOption, subst, w64, to_z, of_z, arith}
use Rattle.std.proofs.lemmas.Int.{ints}
use Rattle.rt_rules.specs.Width.{KeepsWidth}
use Rattle.rt_tech.specs.declared.rules.RuleName.TheVariants.{Width}
use Rattle.rt_drc.specs.Rows.{cells_of, ShowsWidth}
use Rattle.rt_drc.proofs.InOrder.{answered_broken}
use Rattle.rt_drc.proofs.masks.check_width.Goals as goal

pub returns-clause-broken : goal.returns-clause-broken
returns-clause-broken c =
    let cells = cells_of c.args.rows.now.strips.now c.args.m in
    let width = c.args.mask.now.width in
    let same : to_z w64 (of_z w64 width) ≡ width = omega (arith, ints) in
    answered_broken c.answer.result (Width c.args.m) width (KeepsWidth width cells) (ShowsWidth width cells) c.width_breach-found.result
    (subst (λ w. MatchOption c.width_breach-found.result (KeepsWidth w cells) (ShowsWidth w cells)) same c.width_breach-found.ensures) c.answer.ensures.broken
