use Rattle.std.proofs.Common.{inl, inr, arith}
use Rattle.rt_strips.proofs.Meetings.{step_lower, step_upper, at_end}
use Rattle.rt_strips.proofs.meeting.meetings.Goals as goal
use Rattle.rt_strips.proofs.meeting.meetings.Goals.{then-loop-i-test+else-j-begins, else-loop-i-test}

pub loop-i-preserved-then-ends_no_later : goal.loop-i-preserved-then-ends_no_later
loop-i-preserved-then-ends_no_later c =
    step_lower c.args.ends.now c.args.begins.now c.requires.numbered c.requires.begins c.loop-i.i c.loop-i.j _ _ c.loop-i.found.items c.note.new.found.items
    c.loop-i-test.true c.if-j-begins.true c.loop-i.invariant c.in_ok-note.ensures c.if-ends_no_later.ensures

pub loop-i-preserved : goal.loop-i-preserved
loop-i-preserved c =
    step_upper c.args.ends.now c.args.begins.now c.requires.numbered c.requires.ends c.loop-i.i c.loop-i.j _ _ c.loop-i.found.items c.note.new.found.items
    c.loop-i-test.true c.if-j-begins.true c.loop-i.invariant c.in_ok-note.ensures c.if-ends_no_later.ensures

pub returns : goal.returns
returns c =
    at_end c.args.ends.now c.args.begins.now c.loop-i.i c.loop-i.j c.loop-i.found.items c.loop-i.invariant
    (elim c.loop-i-test.branch [
      | then-loop-i-test+else-j-begins w ↦ inr (omega arith)
      | else-loop-i-test w ↦ inl (omega arith)
    ])
