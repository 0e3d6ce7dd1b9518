use Rattle.std.proofs.Common.{ℕ, ◌<◌, ◌-◌, map, length}
use Rattle.rt_strips.specs.Placed.{placed}
use Rattle.rt_columns.specs.Bars.{IsOn}
use Rattle.rt_columns.proofs.chains.is_stood_on.Given as goal

abbrev pub invariant-loop-above : goal.invariant-loop-above
invariant-loop-above l = record {
  behind : l.place < l.above;
  none : (r : ℕ) → l.place < r → r < l.above → ¬ IsOn (map placed l.strips.list) l.over l.place r;
}

abbrev pub decreases-loop-above : goal.decreases-loop-above
decreases-loop-above l = length l.over - l.above
