use Rattle.std.proofs.Common.{◌+◌, subst, sym}
use Rattle.rt_hosts.specs.Hosts.{AreNone}
use Rattle.rt_hosts.proofs.Telling.{none_more}
use Rattle.rt_hosts.proofs.some.none_yet.Goals as goal

pub loop-area-preserved : goal.loop-area-preserved
loop-area-preserved c =
    subst (AreNone (c.loop-area._area-index + 1)) (sym c.in_ok-push.ensures.items) (none_more c.loop-area._area-index c.loop-area.hosts.items c.loop-area.invariant)
