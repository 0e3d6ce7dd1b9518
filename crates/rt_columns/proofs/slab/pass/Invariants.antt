use Rattle.rt_columns.proofs.Kept.{ArePassingTo}
use Rattle.rt_columns.proofs.slab.pass.Given as goal

abbrev pub invariant-loop-bar : goal.invariant-loop-bar
invariant-loop-bar l = ArePassingTo l.active l.bar-index l.slab.top l.into.items
