use Rattle.std.proofs.Common.{rules, pos}
use Rattle.std.proofs.lemmas.Option.{slice_get_within}
use Rattle.rt_rows.specs.declared.name.Name.TheVariants.{Lo}
use Rattle.rt_path.proofs.Backwards.{step_below, before_below, way_on, way_begins, way_ends}
use Rattle.rt_path.specs.Raises.{first}
use Rattle.rt_path.proofs.ways_back.chain.Goals as goal

pub loop-at-init : goal.loop-at-init
loop-at-init c = way_begins c.args.steps.now c.args.log.now c.args.start c.new-shares.result c.requires.there c.new-shares.ensures

pub offset_bounds-log-at : goal.offset_bounds-log-at
offset_bounds-log-at c =
    let low = slice_get_within c.args.log.now c.loop-at.at c.loop-at.invariant.event c.loop-at.invariant.there in
    search rules

pub bounds-log-at : goal.bounds-log-at
bounds-log-at c = slice_get_within c.args.log.now c.loop-at.at c.loop-at.invariant.event c.loop-at.invariant.there

pub offset_bounds-steps-event : goal.offset_bounds-steps-event
offset_bounds-steps-event c =
    let there = slice_get_within c.args.log.now c.loop-at.at c.loop-at.invariant.event c.loop-at.invariant.there in
    let low = step_below c.args.steps.now c.args.log.now c.loop-at.at first c.requires.log c.loop-at-test.true there in
    search rules

pub bounds-steps-event : goal.bounds-steps-event
bounds-steps-event c =
    let there = slice_get_within c.args.log.now c.loop-at.at c.loop-at.invariant.event c.loop-at.invariant.there in
    step_below c.args.steps.now c.args.log.now c.loop-at.at first c.requires.log c.loop-at-test.true there

pub loop-at-smaller : goal.loop-at-smaller
loop-at-smaller c =
    let there = slice_get_within c.args.log.now c.loop-at.at c.loop-at.invariant.event c.loop-at.invariant.there in
    before_below c.args.steps.now c.args.log.now c.loop-at.at first c.requires.log c.loop-at-test.true there

pub loop-at-preserved : goal.loop-at-preserved
loop-at-preserved c =
    let there = slice_get_within c.args.log.now c.loop-at.at c.loop-at.invariant.event c.loop-at.invariant.there in
    way_on c.args.steps.now c.args.log.now c.loop-at.at first c.requires.log c.loop-at-test.true there (record { name = Lo 0; tail = 0; head = 0; by = pos 0 })
    c.args.start c.loop-at.shares c.push.new.self c.loop-at.invariant c.in_ok-push.ensures.ok

pub returns : goal.returns
returns c = way_ends c.args.steps.now c.args.log.now c.args.start c.loop-at.at c.loop-at.shares c.requires.log c.loop-at-test.false c.loop-at.invariant
