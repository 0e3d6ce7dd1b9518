use Rattle.rt_sweep.proofs.Tops.{IsLeastTo}
use Rattle.rt_sweep.proofs.rows.least_top.Given as goal

abbrev pub invariant-loop-bar : goal.invariant-loop-bar
invariant-loop-bar l = IsLeastTo l.bars l.bar-index l.height l.least
