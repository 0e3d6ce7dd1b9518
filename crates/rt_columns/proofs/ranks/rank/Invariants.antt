use Rattle.std.proofs.Common.{ℕ, ◌<◌, ◌≤◌, ◌-◌, ◌≤ℤ◌, ◌<ℤ◌, length}
use Rattle.rt_columns.specs.Sides.{side_of}
use Rattle.rt_columns.proofs.ranks.rank.Given as goal

abbrev pub invariant-loop-low : goal.invariant-loop-low
invariant-loop-low l = record {
  in_order : l.low ≤ l.high;
  inside : l.high ≤ length l.sorted;
  below : (j : ℕ) → j < l.low → side_of l.sorted j <ℤ l.number;
  above : (j : ℕ) → l.high ≤ j → j < length l.sorted → l.number ≤ℤ side_of l.sorted j;
}

abbrev pub decreases-loop-low : goal.decreases-loop-low
decreases-loop-low l = l.high - l.low
