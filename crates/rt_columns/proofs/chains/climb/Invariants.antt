use Rattle.std.proofs.Common.{◌-◌, map, length}
use Rattle.rt_strips.specs.Placed.{placed}
use Rattle.rt_columns.proofs.Climbing.{AreReachedTo}
use Rattle.rt_columns.proofs.chains.climb.Given as goal

abbrev pub invariant-loop-next : goal.invariant-loop-next
invariant-loop-next l = AreReachedTo (map placed l.strips.list) l.over l.place l.next l.reached.items

abbrev pub decreases-loop-next : goal.decreases-loop-next
decreases-loop-next l = length l.over - l.next
