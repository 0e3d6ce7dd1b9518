use Rattle.std.proofs.Common.{◌≡◌, rules, length, Option, None, ℕ, replicate, ◌∙◌}
use Rattle.rt_path.proofs.Turns.{fits_with}
use Rattle.rt_path.proofs.Backwards.{walk_begins}
use Rattle.rt_path.proofs.ways_back.circle.Goals as goal

pub walk_back-requires-clause-fit : goal.walk_back-requires-clause-fit
walk_back-requires-clause-fit c = fits_with c.args.places (length c.as_mut_slice.result.now) c.args.steps.now (c.as_mut_slice.ensures.len ∙ c.in_ok-seen.ensures.len) c.requires.fit

pub walk_back-requires-clause-begins : goal.walk_back-requires-clause-begins
walk_back-requires-clause-begins c =
    let is : c.in_ok-seen.seen.items ≡ replicate {A = Option ℕ} c.args.places None = search rules in
    walk_begins c.args.places (length c.as_mut_slice.result.now) c.args.steps.now c.args.log.now c.args.start c.as_mut_slice.result.now c.new-shares.result c.requires.there
    (c.as_mut_slice.ensures.len ∙ c.in_ok-seen.ensures.len) (c.as_mut_slice.ensures.value ∙ is) c.new-shares.ensures
