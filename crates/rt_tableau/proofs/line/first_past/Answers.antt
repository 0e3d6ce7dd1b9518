use Rattle.rt_tableau.proofs.Firsts.{small_further, first_is_right}
use Rattle.rt_tableau.proofs.line.first_past.Goals as goal

pub loop-s-preserved : goal.loop-s-preserved
loop-s-preserved c = small_further c.args.common c.args.values.now c.loop-s.s _ c.in-Some._number c.loop-s-test.true c.loop-s.invariant c.in-Some.ensures

pub returns : goal.returns
returns c = first_is_right c.args.common c.args.values.now c.loop-s.s c.requires.common.positive c.loop-s-test.false c.loop-s.invariant c.requires.some
