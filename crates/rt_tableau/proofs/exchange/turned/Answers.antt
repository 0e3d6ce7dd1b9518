use Rattle.rt_tableau.proofs.Signs.{turned_at_last}
use Rattle.rt_tableau.proofs.exchange.turned.Goals as goal

pub returns : goal.returns
returns c = turned_at_last c.args.line.now c.loop-number.new c.loop-number.number-index c.loop-number.invariant c.loop-number.auto.number-index-end c.loop-number-test.false
