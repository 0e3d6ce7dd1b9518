use Rattle.std.proofs.Common.{length}
use Rattle.rt_path.specs.WaysBack.{IsOnWayBack}
use Rattle.rt_path.proofs.ways_back.walk_back.Given as goal

abbrev pub invariant-loop-at : goal.invariant-loop-at
invariant-loop-at l = IsOnWayBack (length l.initial.seen) l.steps l.log l.start l.at l.seen l.shares

abbrev pub decreases-loop-at : goal.decreases-loop-at
decreases-loop-at l = l.at
