use Rattle.std.proofs.Common.{length}
use Rattle.rt_path.proofs.Numbers.{asked_fits, quiet_by, wanted_by}
use Rattle.rt_path.proofs.raises.wanted.Goals as goal

pub overflow_add-from : goal.overflow_add-from
overflow_add-from c =
    asked_fits (length c.args.now.now) c.in_ok-from.from c.args.step.now.by c.requires.few (c.requires.short c.args.step.now.tail c.in_ok-from.from c.in_ok-from.was) c.requires.fit.near

pub returns-then-from-step : goal.returns-then-from-step
returns-then-from-step c =
    quiet_by (length c.args.now.now) c.args.now.now c.args.step.now c.in_ok-from.from c.in-Some.to c.requires.few c.requires.fit
    (c.requires.short c.args.step.now.tail c.in_ok-from.from c.in_ok-from.was) (c.requires.short c.args.step.now.head c.in-Some.to c.in-Some.is)
    c.in_ok-from.was c.in-Some.is c.if-from-step.true

pub returns-else-from-step : goal.returns-else-from-step
returns-else-from-step c =
    wanted_by (length c.args.now.now) c.args.now.now c.args.step.now c.in_ok-from.from c.in-Some.to c.requires.few c.requires.fit
    (c.requires.short c.args.step.now.tail c.in_ok-from.from c.in_ok-from.was) (c.requires.short c.args.step.now.head c.in-Some.to c.in-Some.is)
    c.in_ok-from.was c.in-Some.is c.if-from-step.false
