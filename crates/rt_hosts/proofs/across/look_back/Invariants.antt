use Rattle.std.proofs.Common.{◌<◌, length}
use Rattle.rt_hosts.specs.Across.{AreLookedAt}
use Rattle.rt_hosts.proofs.Holding.{IsFarthestTo}
use Rattle.rt_hosts.proofs.across.look_back.Given as goal

abbrev pub invariant-loop-bar : goal.invariant-loop-bar
invariant-loop-bar l = record {
  held : IsFarthestTo l.active (length l.fn.hosts) l.bar-index l.held;
  looked : AreLookedAt l.active (length l.fn.hosts) (λ k j. (j < k) × (k < l.bar-index)) l.fn.hosts l.hosts;
}
