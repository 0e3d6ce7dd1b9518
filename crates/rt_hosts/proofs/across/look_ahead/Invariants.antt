use Rattle.std.proofs.Common.{◌<◌, ◌≤◌, length}
use Rattle.rt_hosts.specs.Across.{AreLookedAt}
use Rattle.rt_hosts.proofs.Holding.{IsNearestFrom}
use Rattle.rt_hosts.proofs.across.look_ahead.Given as goal

abbrev pub invariant-loop-place : goal.invariant-loop-place
invariant-loop-place l = record {
  within : l.place ≤ length l.active;
  held : IsNearestFrom l.active (length l.fn.hosts) l.place l.held;
  looked : AreLookedAt l.active (length l.fn.hosts) (λ k j. (k < j) × (l.place ≤ k)) l.fn.hosts l.hosts;
}

abbrev pub decreases-loop-place : goal.decreases-loop-place
decreases-loop-place l = l.place
