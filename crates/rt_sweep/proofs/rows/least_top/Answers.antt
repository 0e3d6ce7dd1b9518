use Rattle.std.proofs.Common.{inl, inr, arith}
use Rattle.std.proofs.lemmas.Int.{ints}
use Rattle.rt_sweep.proofs.Tops.{less}
use Rattle.rt_sweep.proofs.rows.least_top.Goals as goal
use Rattle.rt_sweep.proofs.rows.least_top.Goals.{then-bar-least, else-bar-least}

pub loop-bar-preserved : goal.loop-bar-preserved
loop-bar-preserved c = elim c.if-bar-least.branch [
  | then-bar-least w ↦
      less c.args.bars.now c.loop-bar.bar-index _ _ _ c.bar-item.result c.loop-bar-test.true c.bar-item.is
      (omega (arith, ints)) (omega (arith, ints)) (inr (omega (arith, ints))) c.loop-bar.invariant
  | else-bar-least w ↦
      less c.args.bars.now c.loop-bar.bar-index _ _ _ c.bar-item.result c.loop-bar-test.true c.bar-item.is
      (omega (arith, ints)) (omega (arith, ints)) (inl (omega (arith, ints))) c.loop-bar.invariant
]
