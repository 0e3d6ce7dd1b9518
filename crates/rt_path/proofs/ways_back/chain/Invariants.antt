use Rattle.rt_path.specs.WaysBack.{IsWayTo}
use Rattle.rt_path.proofs.ways_back.chain.Given as goal

abbrev pub invariant-loop-at : goal.invariant-loop-at
invariant-loop-at l = IsWayTo l.steps l.log l.start l.at l.shares

abbrev pub decreases-loop-at : goal.decreases-loop-at
decreases-loop-at l = l.at
