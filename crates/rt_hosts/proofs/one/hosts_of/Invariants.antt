use Rattle.std.proofs.Common.{map}
use Rattle.rt_base.specs.Plane.{area}
use Rattle.rt_strips.specs.Placed.{placed}
use Rattle.rt_hosts.proofs.Numbering.{AreHostsTo}
use Rattle.rt_hosts.proofs.one.hosts_of.Given as goal

abbrev pub invariant-loop-i : goal.invariant-loop-i
invariant-loop-i l = AreHostsTo l.m (map placed l.strips) (area l.at) l.i l.hosts
