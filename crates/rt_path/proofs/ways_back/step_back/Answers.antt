use Rattle.std.proofs.Common.{rules, length, pos}
use Rattle.rt_rows.specs.declared.name.Name.TheVariants.{Lo}
use Rattle.rt_path.proofs.Backwards.{step_below, place_below, is_step_back}
use Rattle.rt_path.specs.Raises.{first}
use Rattle.rt_path.proofs.ways_back.step_back.Goals as goal

pub offset_bounds-seen-event : goal.offset_bounds-seen-event
offset_bounds-seen-event c =
    let low = place_below c.args.steps.now c.args.log.now c.args.at first c.requires.log c.requires.later c.requires.there (length c.args.seen.now) c.requires.fit in
    search rules

pub bounds-seen-event : goal.bounds-seen-event
bounds-seen-event c = place_below c.args.steps.now c.args.log.now c.args.at first c.requires.log c.requires.later c.requires.there (length c.args.seen.now) c.requires.fit

pub offset_bounds-steps-event : goal.offset_bounds-steps-event
offset_bounds-steps-event c =
    let low = step_below c.args.steps.now c.args.log.now c.args.at first c.requires.log c.requires.later c.requires.there in
    search rules

pub bounds-steps-event : goal.bounds-steps-event
bounds-steps-event c = step_below c.args.steps.now c.args.log.now c.args.at first c.requires.log c.requires.later c.requires.there

pub returns : goal.returns
returns c =
    is_step_back c.args.steps.now c.args.log.now c.args.at first c.requires.log c.requires.later c.requires.there (record { name = Lo 0; tail = 0; head = 0; by = pos 0 })
    c.args.seen.now c.args.shares.now c.push.new.self c.as_slice.result.now c.as_slice.ensures c.in_ok-push.ensures.ok
