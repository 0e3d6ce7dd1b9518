use Rattle.std.proofs.Common.{length, subst}
use Rattle.rt_hosts.specs.Across.{AreLookedAt, IsLater}
use Rattle.rt_hosts.proofs.Looking.{looked_both}
use Rattle.rt_hosts.proofs.across.look_across.Goals as goal

pub returns : goal.returns
returns c =
    let bars = c.args.active.now in
    looked_both bars (length c.args.hosts.now) c.args.hosts.now c.look_back.new.hosts c.look_ahead.new.hosts c.look_back.ensures
    (subst (λ n. AreLookedAt bars n IsLater c.look_back.new.hosts c.look_ahead.new.hosts) c.look_back.ensures.counted c.look_ahead.ensures)
