use Rattle.std.proofs.Common.{length, ◌<◌, sym, subst, ◌∙◌}
use Rattle.rt_path.proofs.Turns.{fits_with}
use Rattle.rt_path.proofs.Ends.{raised_there, round_over}
use Rattle.rt_path.proofs.rounds.raise_until_met.Goals as goal

pub raise_all-requires-clause-fit : goal.raise_all-requires-clause-fit
raise_all-requires-clause-fit c = fits_with (length c.args.now.now) (length c.loop-last.now) c.args.steps.now c.loop-last.auto.now c.requires.fit

pub circle-requires-clause-fit : goal.circle-requires-clause-fit
circle-requires-clause-fit c = fits_with (length c.args.now.now) (length c.raise_all.new.now) c.args.steps.now (c.raise_all.auto.now ∙ c.loop-last.auto.now) c.requires.fit

pub circle-requires-clause-there : goal.circle-requires-clause-there
circle-requires-clause-there c =
    let there = raised_there (length c.loop-last.now) c.loop-last.round c.args.steps.now c.raise_all.new.log.items c.raise_all.new.now c.in_ok-last.field-0 c.in-Some.last c.in-Some.is c.in_ok-last.ensures in
    subst (λ l. c.in-Some.last.event < length l) (sym c.deref.ensures.value) there

pub loop-last-preserved : goal.loop-last-preserved
loop-last-preserved c =
    round_over (length c.args.now.now) (length c.loop-last.now) (length c.raise_all.new.now) c.loop-last.round c.args.steps.now c.raise_all.new.log.items c.deref.result.now c.raise_all.new.now
    c.in_ok-last.field-0 c.in-Some.last c.in_ok-found.found c.loop-last.auto.now (c.raise_all.auto.now ∙ c.loop-last.auto.now) c.deref.ensures.value c.in-Some.is c.in_ok-last.ensures
    (sym c.if-is_some.ensures) c.in_ok-found.ensures
