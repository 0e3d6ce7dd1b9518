use Rattle.rt_tableau.proofs.Starting.{columns_further}
use Rattle.rt_tableau.proofs.start.columns_in_order.Goals as goal

pub loop-d-preserved : goal.loop-d-preserved
loop-d-preserved c = columns_further c.args.first c.loop-d.d c.loop-d.columns.items c.push.new.self.items c.loop-d.invariant c.in_ok-push.ensures.items
