use Rattle.std.proofs.Common.{length, ◌-◌, ◌<◌, ◌≤◌, ◌<ℤ◌, ℕ, map}
use Rattle.rt_strips.specs.Stacks.{opened_at}
use Rattle.rt_strips.specs.Goings.{opened}
use Rattle.rt_strips.proofs.one_mask.stack.first_from.Given as goal

abbrev pub invariant-loop-number : goal.invariant-loop-number
invariant-loop-number l = record {
  onward : l.from ≤ l.number;
  inside : l.number ≤ length l.going;
  before : (j : ℕ) → l.from ≤ j → j < l.number → (opened_at (map opened l.going) j).left <ℤ l.left;
}

abbrev pub decreases-loop-number : goal.decreases-loop-number
decreases-loop-number l = length l.going - l.number
