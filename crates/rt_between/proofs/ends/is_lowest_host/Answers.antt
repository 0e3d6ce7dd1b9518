use Rattle.std.proofs.Common.{rules, w64, FitsSigned, ℤ, subst, ◌∙◌}
use Rattle.std.specs.Bool.{MatchBool}
use Rattle.std.proofs.lemmas.Int.{to_z-of_z}
use Rattle.rt_between.specs.Ends.{NoneBeginsBelow}
use Rattle.rt_between.proofs.Extremes.{lowest_told}
use Rattle.rt_between.proofs.ends.is_lowest_host.Goals as goal

pub returns : goal.returns
returns c =
    let job = c.args.job.now in
    let fits : FitsSigned w64 c.bottom_at.result = search rules in
    lowest_told job c.args.q c.args.i c.args.h c.none_begins_below.result c.if-not-is_host.ensures
    (subst (λ (row : ℤ). MatchBool c.none_begins_below.result (NoneBeginsBelow job c.args.q c.args.i row) (¬ NoneBeginsBelow job c.args.q c.args.i row))
    (to_z-of_z w64 _ fits ∙ c.bottom_at.ensures) c.none_begins_below.ensures)
