use Rattle.std.proofs.Common.{rules, w64, FitsSigned, ℤ, subst, ◌∙◌}
use Rattle.std.specs.Bool.{MatchBool}
use Rattle.std.proofs.lemmas.Int.{to_z-of_z}
use Rattle.rt_rows.specs.Places.{places}
use Rattle.rt_strips.proofs.Placed.{strip_below}
use Rattle.rt_template.proofs.Sides.{of_sides}
use Rattle.rt_vtemplate.specs.Apart.{StripsAreWithin}
use Rattle.rt_vtemplate.proofs.Distances.{off_told, off_higher}
use Rattle.rt_vtemplate.proofs.apart.is_off_above.Goals as goal

pub strips_are_higher-requires-clause-first : goal.strips_are_higher-requires-clause-first
strips_are_higher-requires-clause-first c =
    let job = c.args.job.now in
    strip_below job.view.strips.list c.args.i (record { below_count = (of_sides job c.args.q c.args.i c.args.j c.if-not-are_on_two_sides.ensures).0 })

pub strips_are_higher-requires-clause-second : goal.strips_are_higher-requires-clause-second
strips_are_higher-requires-clause-second c =
    let job = c.args.job.now in
    strip_below job.view.strips.list c.args.j (record { below_count = (of_sides job c.args.q c.args.i c.args.j c.if-not-are_on_two_sides.ensures).1 })

pub returns-then-not-strips_are_higher : goal.returns-then-not-strips_are_higher
returns-then-not-strips_are_higher c = off_higher c.args.job.now (places c.args.columns.now) c.args.q c.args.i c.args.j c.if-not-strips_are_higher.ensures

pub returns : goal.returns
returns c =
    let job = c.args.job.now in
    let columns = places c.args.columns.now in
    let fits : FitsSigned w64 c.apart_number.result = search rules in
    off_told job columns c.args.q c.args.i c.args.j c.strips_are_within.result c.if-not-are_on_two_sides.ensures c.if-not-strips_are_higher.ensures
    (subst (λ (n : ℤ). MatchBool c.strips_are_within.result (StripsAreWithin job columns n c.args.i c.args.j) (¬ StripsAreWithin job columns n c.args.i c.args.j))
    (to_z-of_z w64 _ fits ∙ c.apart_number.ensures) c.strips_are_within.ensures)
