use Rattle.std.proofs.Common.{length, inl, inr, pos, arith}
use Rattle.rt_rows.specs.declared.name.Name.TheVariants.{Lo}
use Rattle.rt_path.proofs.Turns.{past_new, past_none, stops, fit_at, short_at, ends_at}
use Rattle.rt_path.proofs.raises.raise_all.Goals as goal
use Rattle.rt_path.proofs.raises.raise_all.Goals.{then-now-new-via-then-now-new, then-now-new-via-else-now-new+then-step-eq0, in-Some+else-now-new+else-step-eq0, in_default}

pub raise-requires-clause-fit : goal.raise-requires-clause-fit
raise-requires-clause-fit c =
    fit_at (length c.args.now.now) (length c.loop-number.now) c.loop-number.number c.args.steps.now (record { name = Lo 0; tail = 0; head = 0; by = pos 0 }) c.loop-number.auto.now c.loop-number-test.true c.requires.fit

pub raise-requires-clause-short : goal.raise-requires-clause-short
raise-requires-clause-short c = short_at (length c.args.now.now) (length c.loop-number.now) c.loop-number.now c.loop-number.auto.now c.loop-number.invariant.going.short

pub returns-then-now-new : goal.returns-then-now-new
returns-then-now-new c =
    stops (length c.args.now.now) c.args.round c.loop-number.number c.args.steps.now c.loop-number.log.items c.loop-number.now c.loop-number.last c.raise.new.log.items c.raise.new.now
    (record { name = Lo 0; tail = 0; head = 0; by = pos 0 }) c.loop-number-test.true c.requires.fit c.loop-number.invariant c.in_ok-new.field-0 c.in-Some.new c.in-Some.is c.in_ok-new.ensures
    (elim c.then-now-new.branch [ then-now-new-via-then-now-new w ↦ inl (omega (arith, w.if-now-new.true, c.raise.auto.now, c.loop-number.auto.now)) | then-now-new-via-else-now-new+then-step-eq0 w ↦ inr w.if-step-eq0.true ])

pub loop-number-preserved : goal.loop-number-preserved
loop-number-preserved c =
    elim c.match-branch-2.branch [
      | in-Some+else-now-new+else-step-eq0 w ↦
          past_new (length c.args.now.now) c.args.round c.loop-number.number c.args.steps.now c.loop-number.log.items c.loop-number.now c.loop-number.last c.raise.new.log.items c.raise.new.now
          (record { name = Lo 0; tail = 0; head = 0; by = pos 0 }) c.loop-number-test.true c.requires.fit c.loop-number.invariant c.in_ok-new.field-0 c.match-branch-2.last w.in-Some.new w.in-Some.is w.last-is
          c.in_ok-new.ensures (omega (arith, w.if-now-new.false, c.raise.auto.now, c.loop-number.auto.now)) w.if-step-eq0.false
      | in_default w ↦
          past_none (length c.args.now.now) c.args.round c.loop-number.number c.args.steps.now c.loop-number.log.items c.loop-number.now c.loop-number.last c.raise.new.log.items c.raise.new.now
          (record { name = Lo 0; tail = 0; head = 0; by = pos 0 }) c.loop-number-test.true c.requires.fit c.loop-number.invariant c.in_ok-new.field-0 c.match-branch-2.last w.in_default.is w.last-is
          c.in_ok-new.ensures
    ]

pub returns : goal.returns
returns c = ends_at (length c.args.now.now) c.args.round c.loop-number.number c.args.steps.now c.loop-number.log.items c.loop-number.now c.loop-number.last c.loop-number.auto.number-end c.loop-number-test.false c.loop-number.invariant
