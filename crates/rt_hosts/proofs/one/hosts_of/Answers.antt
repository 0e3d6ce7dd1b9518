use Rattle.std.proofs.Common.{◌+◌, ◌∙◌, map, subst, sym}
use Rattle.rt_base.specs.Plane.{area}
use Rattle.rt_strips.specs.Placed.{placed}
use Rattle.rt_hosts.proofs.Numbering.{AreHostsTo, no_hosts, host_more, host_passed}
use Rattle.rt_hosts.proofs.one.hosts_of.Goals as goal
use Rattle.rt_hosts.proofs.one.hosts_of.Goals.{then-is_host+in_ok-push, else-is_host}

pub loop-i-init : goal.loop-i-init
loop-i-init c =
    subst (AreHostsTo c.args.m (map placed c.args.strips.now) (area c.args.at.now) 0) (sym c.new-hosts.ensures)
    (no_hosts c.args.m (map placed c.args.strips.now) (area c.args.at.now))

pub loop-i-preserved : goal.loop-i-preserved
loop-i-preserved c =
    let strips = c.args.strips.now in
    let r = area c.args.at.now in
    elim c.if-is_host.branch [
      | then-is_host+in_ok-push w ↦
          subst (AreHostsTo c.args.m (map placed strips) r (c.loop-i.i + 1)) (sym (w.hosts-is ∙ w.in_ok-push.ensures.ok))
          (host_more c.args.m strips r c.loop-i.i c.index-strips-i.result c.loop-i-test.true c.index-strips-i.is c.loop-i.hosts c.loop-i.invariant w.if-is_host.ensures)
      | else-is_host w ↦
          subst (AreHostsTo c.args.m (map placed strips) r (c.loop-i.i + 1)) (sym w.hosts-is)
          (host_passed c.args.m strips r c.loop-i.i c.index-strips-i.result c.loop-i-test.true c.index-strips-i.is c.loop-i.hosts c.loop-i.invariant w.if-is_host.ensures)
    ]
