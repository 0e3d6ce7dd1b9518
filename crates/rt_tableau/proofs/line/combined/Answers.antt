use Rattle.std.proofs.Common.{◌≤◌, subst}
use Rattle.rt_tableau.proofs.Combined.{combined_turn, combined_at_last}
use Rattle.rt_tableau.proofs.line.combined.Goals as goal

pub loop-s-preserved : goal.loop-s-preserved
loop-s-preserved c =
    combined_turn c.args.line.now c.args.pivot.now c.args.q c.loop-s.values.items c.push.new.self.items c.loop-s.s c.number-a.result c.number-b.result c.number.result c.number-in-loop-s.result c.crossed.result
    c.requires.line c.requires.pivot c.loop-s.invariant c.number-a.ensures c.number-b.ensures c.number.ensures c.number-in-loop-s.ensures c.crossed.ensures.value c.crossed.ensures.wide c.in_ok-push.ensures.items

pub returns : goal.returns
returns c =
    combined_at_last c.args.line.now c.args.pivot.now c.args.q c.loop-s.values.items c.loop-s.s c.loop-s.invariant (subst (λ n. c.loop-s.s ≤ n) c.max-s-end.ensures c.loop-s.auto.s-end)
    (subst (λ n. n ≤ c.loop-s.s) c.max-s-end.ensures c.loop-s-test.false)
