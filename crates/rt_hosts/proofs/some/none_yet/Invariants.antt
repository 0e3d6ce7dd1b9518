use Rattle.rt_hosts.specs.Hosts.{AreNone}
use Rattle.rt_hosts.proofs.some.none_yet.Given as goal

abbrev pub invariant-loop-area : goal.invariant-loop-area
invariant-loop-area l = AreNone l._area-index l.hosts.items
