use Rattle.std.proofs.Common.{map, Option, List, subst, sym, ◌∙◌}
use Rattle.std.specs.Option.{MatchOption}
use Rattle.rt_sweep.specs.declared.bar.Bar.{Bar}
use Rattle.rt_sweep.specs.declared.step.Slab.{Slab}
use Rattle.rt_sweep.specs.Slabs.{AreBelow, PassesSlab}
use Rattle.rt_strips.specs.Placed.{placed}
use Rattle.rt_columns.specs.Bars.{AreBarsOf}
use Rattle.rt_columns.specs.Slabs.{AddsSlab}
use Rattle.rt_columns.proofs.Kept.{slab_bars, shows_none, shows_slab, shows_all}
use Rattle.rt_columns.proofs.mask.add_slabs.Goals as goal

pub add_slab-requires : goal.add_slab-requires
add_slab-requires c =
    let passes : PassesSlab c.loop-reached.sweep c.in-Some.slab.bottom c.in-Some.slab.top c.next_slab.new.self =
    subst (λ (found : Option Slab). MatchOption found (AreBelow c.loop-reached.sweep.bars c.loop-reached.sweep.height)
    (λ slab. PassesSlab c.loop-reached.sweep slab.bottom slab.top c.next_slab.new.self)) c.in-Some.is c.in_ok-slab.ensures.slab in
    record {
      bars = subst (λ (bars : List Bar). AreBarsOf (map placed c.args.strips.now.list) bars) (sym c.active.ensures)
          (slab_bars (map placed c.args.strips.now.list) c.loop-reached.sweep.bars c.args.sweep.now.bars c.in-Some.slab.bottom c.in-Some.slab.top c.next_slab.new.self.active
          c.loop-reached.invariant.bars c.requires.bars passes.slab);
    }

pub loop-reached-init : goal.loop-reached-init
loop-reached-init c = record {
  bars = λ i. c.args.sweep.now.bars;
  shown = shows_none (map placed c.args.strips.now.list) c.args.sweep.now.bars c.args.sweep.now.height c.args.names.now;
}

pub loop-reached-preserved : goal.loop-reached-preserved
loop-reached-preserved c =
    let passes : PassesSlab c.loop-reached.sweep c.in-Some.slab.bottom c.in-Some.slab.top c.next_slab.new.self =
    subst (λ (found : Option Slab). MatchOption found (AreBelow c.loop-reached.sweep.bars c.loop-reached.sweep.height)
    (λ slab. PassesSlab c.loop-reached.sweep slab.bottom slab.top c.next_slab.new.self)) c.in-Some.is c.in_ok-slab.ensures.slab in
    record {
      bars = passes.same_bars ∙ c.loop-reached.invariant.bars;
      shown = shows_slab (map placed c.args.strips.now.list) c.args.sweep.now.bars c.args.sweep.now.height c.loop-reached.sweep c.next_slab.new.self
          c.in-Some.slab.bottom c.in-Some.slab.top c.loop-reached.invariant.bars passes c.args.names.now c.loop-reached.names c.add_slab.new.names c.loop-reached.invariant.shown
          (subst (λ (bars : List Bar). AddsSlab (map placed c.args.strips.now.list) bars c.in-Some.slab.top c.loop-reached.names c.add_slab.new.names) c.active.ensures c.in_ok-add_slab.ensures);
    }

pub returns : goal.returns
returns c =
    let below : AreBelow c.loop-reached.sweep.bars c.loop-reached.sweep.height =
    subst (λ (found : Option Slab). MatchOption found (AreBelow c.loop-reached.sweep.bars c.loop-reached.sweep.height)
    (λ slab. PassesSlab c.loop-reached.sweep slab.bottom slab.top c.next_slab.new.self)) c.in_default.is c.in_ok-slab.ensures.slab in
    shows_all (map placed c.args.strips.now.list) c.args.sweep.now.bars c.args.sweep.now.height c.loop-reached.sweep.height c.args.names.now c.loop-reached.names
    (subst (λ (bars : List Bar). AreBelow bars c.loop-reached.sweep.height) c.loop-reached.invariant.bars below) c.loop-reached.invariant.shown
