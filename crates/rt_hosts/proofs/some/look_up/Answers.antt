use Rattle.std.proofs.Common.{◌+◌, length, List, map, subst, sym}
use Rattle.std.proofs.lemmas.List.{length-map}
use Rattle.std.proofs.lemmas.Option.{MatchOption-at_some, MatchOption-at_none}
use Rattle.rt_sweep.specs.declared.bar.Bar.{Bar}
use Rattle.rt_sweep.specs.declared.step.Slab.{Slab}
use Rattle.rt_sweep.specs.Slabs.{AreBelow, PassesSlab}
use Rattle.rt_strips.specs.Placed.{placed}
use Rattle.rt_hosts.specs.Bars.{AreBarsOf}
use Rattle.rt_hosts.specs.Across.{AreLookedAt, AreAnyTwo}
use Rattle.rt_hosts.proofs.Listing.{bars_along}
use Rattle.rt_hosts.proofs.Telling.{told_first, told_more, told_all}
use Rattle.rt_hosts.proofs.some.look_up.Goals as goal

pub loop-sweep-init : goal.loop-sweep-init
loop-sweep-init c =
    let strips = map placed c.args.strips.now in
    let areas = c.args.areas.now in
    let bars = c.in_ok-bars.bars.items in
    let start = c.in_ok-sweep.ensures in
    let are = subst (λ n. AreBarsOf c.args.m strips areas (length areas + n) bars) (sym (length-map c.args.strips.now placed)) c.in_ok-bars.ensures in
    record {
      bars = bars_along c.args.m strips areas (length areas + length strips) bars c.in_ok-sweep.sweep.bars start.same_bars are;
      told = told_first c.args.m strips areas bars are c.in_ok-sweep.sweep.height c.args.hosts.now start.above c.requires.none;
    }

pub loop-sweep-preserved : goal.loop-sweep-preserved
loop-sweep-preserved c =
    let strips = map placed c.args.strips.now in
    let sweep = c.loop-sweep.sweep in
    let areas = c.args.areas.now in
    let slab = c.in-Some._slab in
    let after = c.next_slab.new.self in
    let passes = MatchOption-at_some (AreBelow sweep.bars sweep.height) (λ (slab : Slab). PassesSlab sweep slab.bottom slab.top after)
    slab c.in-Some.is c.in_ok-_slab.ensures.slab in
    record {
      bars = subst (AreBarsOf c.args.m strips areas (length areas + length strips)) (sym passes.same_bars) c.loop-sweep.invariant.bars;
      told = told_more c.args.m strips areas sweep after slab.bottom slab.top c.loop-sweep.hosts c.look_across.new.hosts c.loop-sweep.invariant.bars passes
          c.loop-sweep.invariant.told
          (subst (λ n. AreLookedAt after.active n AreAnyTwo c.loop-sweep.hosts c.look_across.new.hosts) c.loop-sweep.invariant.told.counted
          (subst (λ (active : List Bar). AreLookedAt active (length c.loop-sweep.hosts) AreAnyTwo c.loop-sweep.hosts c.look_across.new.hosts) c.active.ensures
          c.look_across.ensures));
    }

pub returns : goal.returns
returns c =
    let sweep = c.loop-sweep.sweep in
    told_all c.args.m (map placed c.args.strips.now) c.args.areas.now sweep.bars c.loop-sweep.invariant.bars sweep.height c.loop-sweep.hosts
    (MatchOption-at_none (AreBelow sweep.bars sweep.height) (λ (slab : Slab). PassesSlab sweep slab.bottom slab.top c.next_slab.new.self) c.in_default.is
    c.in_ok-_slab.ensures.slab) c.loop-sweep.invariant.told
