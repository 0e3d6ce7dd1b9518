use Rattle.std.proofs.Common.{rules, w64, FitsSigned, ℤ, subst, ◌∙◌}
use Rattle.std.specs.Bool.{MatchBool}
use Rattle.std.proofs.lemmas.Int.{to_z-of_z}
use Rattle.rt_between.specs.Ends.{NoneEndsAbove}
use Rattle.rt_between.proofs.Extremes.{highest_told}
use Rattle.rt_between.proofs.ends.is_highest_host.Goals as goal

pub returns : goal.returns
returns c =
    let job = c.args.job.now in
    let fits : FitsSigned w64 c.top_at.result = search rules in
    highest_told job c.args.q c.args.i c.args.h c.none_ends_above.result c.if-not-is_host.ensures
    (subst (λ (row : ℤ). MatchBool c.none_ends_above.result (NoneEndsAbove job c.args.q c.args.i row) (¬ NoneEndsAbove job c.args.q c.args.i row))
    (to_z-of_z w64 _ fits ∙ c.top_at.ensures) c.none_ends_above.ensures)
