use Rattle.std.proofs.Common.{rules, w64, FitsSigned, ℤ, subst, ◌∙◌}
use Rattle.std.specs.Bool.{MatchBool}
use Rattle.std.proofs.lemmas.Int.{to_z-of_z}
use Rattle.rt_strips.proofs.Placed.{strip_below}
use Rattle.rt_template.proofs.Sides.{of_sides}
use Rattle.rt_htemplate.specs.Asked.{StripsLieOff}
use Rattle.rt_htemplate.proofs.Answered.{off_told}
use Rattle.rt_htemplate.proofs.masks.is_off_right.Goals as goal

pub strips_lie_off-requires-clause-first : goal.strips_lie_off-requires-clause-first
strips_lie_off-requires-clause-first c =
    let job = c.args.job.now in
    strip_below job.view.strips.list c.args.i (record { below_count = (of_sides job c.args.q c.args.i c.args.j c.if-not-are_on_two_sides.ensures).0 })

pub strips_lie_off-requires-clause-second : goal.strips_lie_off-requires-clause-second
strips_lie_off-requires-clause-second c =
    let job = c.args.job.now in
    strip_below job.view.strips.list c.args.j (record { below_count = (of_sides job c.args.q c.args.i c.args.j c.if-not-are_on_two_sides.ensures).1 })

pub returns : goal.returns
returns c =
    let job = c.args.job.now in
    let fits : FitsSigned w64 c.apart_number.result = search rules in
    off_told job c.args.q c.args.i c.args.j c.strips_lie_off.result c.if-not-are_on_two_sides.ensures
    (subst (λ (n : ℤ). MatchBool c.strips_lie_off.result (StripsLieOff job n c.args.i c.args.j) (¬ StripsLieOff job n c.args.i c.args.j))
    (to_z-of_z w64 _ fits ∙ c.apart_number.ensures) c.strips_lie_off.ensures)
