use Rattle.std.proofs.Common.{length, ◌-◌, ◌<◌, ◌≤◌, ◌<ℤ◌, ℕ}
use Rattle.rt_columns.specs.Bars.{line_at}
use Rattle.rt_columns.proofs.gaps.first_above.Given as goal

abbrev pub invariant-loop-first : goal.invariant-loop-first
invariant-loop-first l = record {
  onward : l.lower < l.first;
  inside : l.first ≤ length l.over;
  before : (r : ℕ) → l.lower < r → r < l.first → (line_at l.over r).bottom <ℤ (line_at l.over l.lower).top;
}

abbrev pub decreases-loop-first : goal.decreases-loop-first
decreases-loop-first l = length l.over - l.first
