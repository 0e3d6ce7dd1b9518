use Rattle.std.proofs.Common.{◌+◌, length, map}
use Rattle.rt_strips.specs.Placed.{placed}
use Rattle.rt_hosts.specs.Bars.{AreBarsOf}
use Rattle.rt_hosts.proofs.bars.add_strips.Given as goal

abbrev pub invariant-loop-i : goal.invariant-loop-i
invariant-loop-i l = AreBarsOf l.m (map placed l.strips) l.areas (length l.areas + l.i) l.bars.items
