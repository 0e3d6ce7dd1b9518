use Rattle.std.proofs.Common.{arith}
use Rattle.std.proofs.lemmas.Int.{ints}
use Rattle.rt_sweep.proofs.Tops.{greater}
use Rattle.rt_sweep.proofs.rows.greatest_top.Goals as goal
use Rattle.rt_sweep.proofs.rows.greatest_top.Goals.{then-bar-greatest, else-bar-greatest}

pub loop-bar-preserved : goal.loop-bar-preserved
loop-bar-preserved c = elim c.if-bar-greatest.branch [
  | then-bar-greatest w ↦
      greater c.args.bars.now c.loop-bar.bar-index _ _ _ c.bar-item.result c.loop-bar-test.true c.bar-item.is
      (omega (arith, ints)) (omega (arith, ints)) c.loop-bar.invariant
  | else-bar-greatest w ↦
      greater c.args.bars.now c.loop-bar.bar-index _ _ _ c.bar-item.result c.loop-bar-test.true c.bar-item.is
      (omega (arith, ints)) (omega (arith, ints)) c.loop-bar.invariant
]
