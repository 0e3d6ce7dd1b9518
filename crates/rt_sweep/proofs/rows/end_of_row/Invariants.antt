use Rattle.std.proofs.Common.{length, ◌-◌, ◌<◌, ◌≤◌, ◌≤ℤ◌, ℕ, get_or}
use Rattle.rt_sweep.specs.declared.bar.Bar.{Bar}
use Rattle.rt_sweep.proofs.rows.end_of_row.Given as goal

abbrev pub invariant-loop-end : goal.invariant-loop-end
invariant-loop-end l = record {
  onward : l.from ≤ l.end;
  inside : l.end ≤ length l.bars;
  first : (k : ℕ) (d : Bar) → l.from ≤ k → k < l.end → (get_or l.bars k d).at.y1 ≤ℤ l.row;
}

abbrev pub decreases-loop-end : goal.decreases-loop-end
decreases-loop-end l = length l.bars - l.end
