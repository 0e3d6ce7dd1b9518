use Rattle.rt_tableau.proofs.Quotients.{quotients_at_last}
use Rattle.rt_tableau.proofs.line.narrowed.Goals as goal

pub returns : goal.returns
returns c =
    quotients_at_last c.args.common c.args.values.now c.loop-value.line c.loop-value.value-index c.loop-value.invariant c.loop-value.auto.value-index-end c.loop-value-test.false
