use Rattle.std.proofs.Common.{◌≤ℤ◌, List, All, subst, sym}
use Rattle.std.specs.Prelude.{IsPermutation}
use Rattle.std.proofs.lemmas.List.Sorted.{All-permutation, IsPermutation-sym}
use Rattle.std.proofs.lemmas.Option.{MatchOption-at_some, MatchOption-at_none}
use Rattle.rt_sweep.specs.declared.bar.Bar.{Bar}
use Rattle.rt_sweep.specs.declared.step.Slab.{Slab}
use Rattle.rt_sweep.specs.Slabs.{AreBelow, PassesSlab}
use Rattle.rt_drc.specs.Clashing.{HasGroup, AreGroupedAcross, ClashAcross}
use Rattle.rt_drc.proofs.Walking.{grouped_along, clash_along, active_groups, grouped_below_all, slab_passed, clash_in_slab}
use Rattle.rt_drc.proofs.clash.first_clash.Goals as goal

pub returns-in-Some-clash_across : goal.returns-in-Some-clash_across
returns-in-Some-clash_across c =
    let passes = MatchOption-at_some (AreBelow c.loop-sweep.sweep.bars c.loop-sweep.sweep.height)
    (λ (slab : Slab). PassesSlab c.loop-sweep.sweep slab.bottom slab.top c.next_slab.new.self) c.in-Some._slab c.in-Some.is c.in_ok-_slab.ensures.slab in
    clash_along c.args.groups.now c.loop-sweep.sweep.bars c.args.bars.items c.in-Some-clash_across.clash
    (IsPermutation-sym c.args.bars.items c.loop-sweep.sweep.bars c.loop-sweep.invariant.same_bars)
    (clash_in_slab c.args.groups.now c.loop-sweep.sweep.bars c.next_slab.new.self.active c.in-Some._slab.bottom c.in-Some._slab.top c.in-Some-clash_across.clash passes.slab
    (subst (λ active. ClashAcross c.args.groups.now active c.in-Some-clash_across.clash) c.active.ensures c.in-Some-clash_across.ensures))

pub loop-sweep-preserved : goal.loop-sweep-preserved
loop-sweep-preserved c =
    let passes = MatchOption-at_some (AreBelow c.loop-sweep.sweep.bars c.loop-sweep.sweep.height)
    (λ (slab : Slab). PassesSlab c.loop-sweep.sweep slab.bottom slab.top c.next_slab.new.self) c.in-Some._slab c.in-Some.is c.in_ok-_slab.ensures.slab in
    record {
      same_bars = subst (λ (bars : List Bar). IsPermutation c.args.bars.items bars) (sym passes.same_bars) c.loop-sweep.invariant.same_bars;
      below = grouped_along c.args.groups.now c.loop-sweep.sweep.bars c.args.bars.items c.next_slab.new.self.height
          (IsPermutation-sym c.args.bars.items c.loop-sweep.sweep.bars c.loop-sweep.invariant.same_bars)
          (slab_passed c.args.groups.now c.loop-sweep.sweep c.next_slab.new.self c.in-Some._slab.bottom c.in-Some._slab.top passes
          (grouped_along c.args.groups.now c.args.bars.items c.loop-sweep.sweep.bars c.loop-sweep.sweep.height c.loop-sweep.invariant.same_bars c.loop-sweep.invariant.below)
          (subst (AreGroupedAcross c.args.groups.now) c.active.ensures c.in_default-clash_across.ensures));
    }

pub returns : goal.returns
returns c =
    grouped_below_all c.args.groups.now c.args.bars.items c.loop-sweep.sweep.height c.loop-sweep.invariant.below
    (All-permutation (λ (bar : Bar). bar.at.y2 ≤ℤ c.loop-sweep.sweep.height) c.loop-sweep.sweep.bars c.args.bars.items
    (IsPermutation-sym c.args.bars.items c.loop-sweep.sweep.bars c.loop-sweep.invariant.same_bars)
    (MatchOption-at_none (AreBelow c.loop-sweep.sweep.bars c.loop-sweep.sweep.height)
    (λ (slab : Slab). PassesSlab c.loop-sweep.sweep slab.bottom slab.top c.next_slab.new.self) c.in_default.is c.in_ok-_slab.ensures.slab))

pub clash_across-requires-clause-groups : goal.clash_across-requires-clause-groups
clash_across-requires-clause-groups c =
    let passes = MatchOption-at_some (AreBelow c.loop-sweep.sweep.bars c.loop-sweep.sweep.height)
    (λ (slab : Slab). PassesSlab c.loop-sweep.sweep slab.bottom slab.top c.next_slab.new.self) c.in-Some._slab c.in-Some.is c.in_ok-_slab.ensures.slab in
    subst (All (HasGroup c.args.groups.now)) (sym c.active.ensures)
    (active_groups c.args.groups.now c.args.bars.items c.loop-sweep.sweep.bars c.next_slab.new.self.active c.in-Some._slab.bottom c.in-Some._slab.top
    c.loop-sweep.invariant.same_bars c.requires passes.slab.are_active)
