use Rattle.std.proofs.Common.{sym, arith}
use Rattle.std.proofs.lemmas.Int.{ints}
use Rattle.rt_sweep.proofs.rows.goes_on.Goals as goal

pub returns-then-bar-height : goal.returns-then-bar-height
returns-then-bar-height c =
    (c.bar-item.result, (c.loop-bar.bar-index, c.loop-bar-test.true, sym c.bar-item.is), omega (arith, ints))
