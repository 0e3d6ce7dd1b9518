use Rattle.rt_tableau.proofs.AddedLines.{added_turn, added_finished, right_is}
use Rattle.rt_tableau.proofs.added.added_line.Goals as goal

pub loop-s-preserved : goal.loop-s-preserved
loop-s-preserved c =
    added_turn c.args.rest.now c.args.over.now c.args.times.now _ c.args.own c.loop-s.numbers c.push.new.self c.loop-s.s c.added_number.result c.loop-s.invariant c.added_number.ensures.small c.added_number.ensures.right
    c.added_number.ensures.own c.added_number.ensures.other c.in_ok-push.ensures.ok

pub returns : goal.returns
returns c =
    added_finished c.args.rest.now c.args.over.now c.args.times.now c.args.least.now c.in-Some.right _ c.args.own c.loop-s.numbers c.loop-s.s c.loop-s.invariant c.loop-s.auto.s-end c.loop-s-test.false
    (right_is c.args.rest.now c.args.over.now c.args.times.now c.args.least.now c.number.result c.crossed.result c.requires.rest c.number.ensures c.crossed.ensures.value c.crossed.ensures.wide) c.in-Some.ensures
