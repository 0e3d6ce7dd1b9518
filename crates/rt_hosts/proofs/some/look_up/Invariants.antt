use Rattle.std.proofs.Common.{length, map, ◌+◌, ◌-◌}
use borrow.Author.Differences.{up, down}
use Rattle.rt_strips.specs.Placed.{placed}
use Rattle.rt_hosts.specs.Bars.{AreBarsOf}
use Rattle.rt_hosts.proofs.Telling.{AreToldBelow}
use Rattle.rt_hosts.proofs.some.look_up.Given as goal

abbrev pub invariant-loop-sweep : goal.invariant-loop-sweep
invariant-loop-sweep l = record {
  bars : AreBarsOf l.m (map placed l.strips) l.areas (length l.areas + length (map placed l.strips)) l.sweep.bars;
  told : AreToldBelow l.m (map placed l.strips) l.areas l.sweep.height l.hosts;
}

abbrev pub decreases-loop-sweep : goal.decreases-loop-sweep
decreases-loop-sweep l = (up l.sweep.highest + down l.sweep.height) - (up l.sweep.height + down l.sweep.highest)
