use Rattle.std.proofs.Common.{length, ◌-◌, ◌+◌}
use Rattle.rt_sweep.proofs.Merging.{IsMergedTo}
use Rattle.rt_sweep.proofs.merge.merge.Given as goal

abbrev pub invariant-loop-i : goal.invariant-loop-i
invariant-loop-i l = IsMergedTo l.going l.i l.beginning l.j l.row l.into.items

abbrev pub decreases-loop-i : goal.decreases-loop-i
decreases-loop-i l = (length l.going - l.i) + (length l.beginning - l.j)
