use Rattle.std.proofs.Common.{rules, length}
use Rattle.std.proofs.lemmas.Option.{slice_get_within}
use Rattle.rt_path.specs.Raises.{first}
use Rattle.rt_path.proofs.Turns.{fits_with}
use Rattle.rt_path.proofs.Backwards.{falls, before_there, in_seen, found_some, found_none, no_circle}
use Rattle.rt_path.proofs.ways_back.walk_back.Goals as goal

pub step_back-requires-clause-fit : goal.step_back-requires-clause-fit
step_back-requires-clause-fit c = fits_with (length c.args.seen.now) (length c.loop-at.seen) c.args.steps.now c.loop-at.auto.seen c.requires.fit

pub step_back-requires-clause-there : goal.step_back-requires-clause-there
step_back-requires-clause-there c = slice_get_within c.args.log.now c.loop-at.at c.loop-at.invariant.back.event c.loop-at.invariant.back.there

pub bounds-log-at : goal.bounds-log-at
bounds-log-at c =
    before_there (length c.args.seen.now) c.args.steps.now c.args.log.now c.args.start c.loop-at.at c.loop-at.seen c.loop-at.shares c.step_back.new.seen c.step_back.new.shares c.in_ok-at.at first
    c.requires.some c.requires.fit c.requires.log c.loop-at-test.true c.loop-at.invariant c.in_ok-at.ensures

pub offset_bounds-log-at : goal.offset_bounds-log-at
offset_bounds-log-at c =
    let low = before_there (length c.args.seen.now) c.args.steps.now c.args.log.now c.args.start c.loop-at.at c.loop-at.seen c.loop-at.shares c.step_back.new.seen c.step_back.new.shares c.in_ok-at.at first
    c.requires.some c.requires.fit c.requires.log c.loop-at-test.true c.loop-at.invariant c.in_ok-at.ensures in
    search rules

pub slice_copy_out-found : goal.slice_copy_out-found
slice_copy_out-found c =
    in_seen (length c.args.seen.now) c.args.steps.now c.args.log.now c.args.start c.loop-at.at c.loop-at.seen c.loop-at.shares c.step_back.new.seen c.step_back.new.shares c.in_ok-at.at first
    c.requires.some c.requires.fit c.requires.log c.loop-at-test.true c.loop-at.invariant c.in_ok-at.ensures

pub offset_bounds-seen-log : goal.offset_bounds-seen-log
offset_bounds-seen-log c =
    let low = in_seen (length c.args.seen.now) c.args.steps.now c.args.log.now c.args.start c.loop-at.at c.loop-at.seen c.loop-at.shares c.step_back.new.seen c.step_back.new.shares c.in_ok-at.at first
    c.requires.some c.requires.fit c.requires.log c.loop-at-test.true c.loop-at.invariant c.in_ok-at.ensures in
    search rules

pub returns-then-is_some : goal.returns-then-is_some
returns-then-is_some c =
    found_some (length c.args.seen.now) c.args.steps.now c.args.log.now c.args.start c.loop-at.at c.loop-at.seen c.loop-at.shares c.step_back.new.seen c.step_back.new.shares c.in_ok-at.at first
    c.requires.some c.requires.fit c.requires.log c.loop-at-test.true c.loop-at.invariant c.in_ok-at.ensures (search rules)

pub loop-at-smaller : goal.loop-at-smaller
loop-at-smaller c =
    falls (length c.args.seen.now) c.args.steps.now c.args.log.now c.args.start c.loop-at.at c.loop-at.seen c.loop-at.shares c.step_back.new.seen c.step_back.new.shares c.in_ok-at.at first
    c.requires.some c.requires.fit c.requires.log c.loop-at-test.true c.loop-at.invariant c.in_ok-at.ensures

pub loop-at-preserved : goal.loop-at-preserved
loop-at-preserved c =
    found_none (length c.args.seen.now) c.args.steps.now c.args.log.now c.args.start c.loop-at.at c.loop-at.seen c.loop-at.shares c.step_back.new.seen c.step_back.new.shares c.in_ok-at.at first
    c.requires.some c.requires.fit c.requires.log c.loop-at-test.true c.loop-at.invariant c.in_ok-at.ensures (search rules)

pub returns : goal.returns
returns c =
    no_circle (length c.args.seen.now) c.args.steps.now c.args.log.now c.args.start c.loop-at.at c.loop-at.seen c.loop-at.shares c.requires.log c.requires.fit
    c.loop-at-test.false c.requires.some c.requires.later c.loop-at.invariant
