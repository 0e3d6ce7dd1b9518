use Rattle.std.proofs.Common.{◌+◌, ◌∙◌, ap, map, refl, subst, sym}
use Rattle.rt_base.specs.Plane.{area}
use Rattle.rt_strips.specs.Placed.{placed}
use Rattle.rt_hosts.specs.Bars.{AreBarsOf}
use Rattle.rt_hosts.proofs.Listing.{bar_more, area_taken, area_at}
use Rattle.rt_hosts.proofs.bars.bars_of.Goals as goal

pub loop-i-preserved : goal.loop-i-preserved
loop-i-preserved c =
    let strips = map placed c.args.strips.now in
    let areas = c.args.areas.now in
    let at = c.index-areas-i.result in
    let i = c.loop-i.i in
    subst (AreBarsOf c.args.m strips areas (i + 1)) (sym c.in_ok-push.ensures.items)
    (bar_more c.args.m strips areas i (record { at = at; tag = i }) c.loop-i.bars.items refl (area_taken c.args.m strips areas i c.loop-i-test.true)
    (λ e. area_at c.args.m strips areas i at c.loop-i-test.true e ∙ ap area (sym c.index-areas-i.is)) c.loop-i.invariant)
