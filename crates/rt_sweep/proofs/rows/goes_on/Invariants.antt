use Rattle.std.proofs.Common.{◌≤ℤ◌, ◌<◌, ℕ, get_or}
use Rattle.rt_sweep.specs.declared.bar.Bar.{Bar}
use Rattle.rt_sweep.proofs.rows.goes_on.Given as goal

abbrev pub invariant-loop-bar : goal.invariant-loop-bar
invariant-loop-bar l = (k : ℕ) (d : Bar) → k < l.bar-index → (get_or l.bars k d).at.y2 ≤ℤ l.height
