use Rattle.rt_sweep.proofs.Tops.{IsGreatestTo}
use Rattle.rt_sweep.proofs.rows.greatest_top.Given as goal

abbrev pub invariant-loop-bar : goal.invariant-loop-bar
invariant-loop-bar l = IsGreatestTo l.bars l.bar-index l.height l.greatest
