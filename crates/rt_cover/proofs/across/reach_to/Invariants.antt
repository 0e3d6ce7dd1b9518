use Rattle.std.proofs.Common.{length, ◌-◌}
use Rattle.rt_cover.specs.Across.{IsReachUpTo}
use Rattle.rt_cover.proofs.across.reach_to.Given as goal

abbrev pub invariant-loop-reach : goal.invariant-loop-reach
invariant-loop-reach l = IsReachUpTo l.active l.count l.bar.at.x1 l.reach.next l.reach.right

abbrev pub decreases-loop-reach : goal.decreases-loop-reach
decreases-loop-reach l = length l.active - l.reach.next
