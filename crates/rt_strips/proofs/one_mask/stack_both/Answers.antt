use Rattle.std.proofs.Common.{◌∙◌, Option, List, subst, sym, map}
use Rattle.std.specs.Option.{MatchOption}
use Rattle.rt_base.specs.declared.plane.Rect.{Rect}
use Rattle.rt_base.specs.Plane.{area}
use Rattle.rt_sweep.specs.declared.bar.Bar.{Bar}
use Rattle.rt_sweep.specs.declared.step.Slab.{Slab}
use Rattle.rt_sweep.specs.Slabs.{AreBelow, PassesSlab}
use Rattle.rt_strips.specs.OneMask.{AreFirstStrips}
use Rattle.rt_strips.specs.Stacks.{PutsRow}
use Rattle.rt_strips.specs.Pieces.{IsBothColumn, ArePieces}
use Rattle.rt_strips.specs.Heights.{IsBothBarCell, IsBuiltTo, pile_of}
use Rattle.rt_strips.proofs.Built.{built_whole}
use Rattle.rt_strips.proofs.Crossed.{one_slab_of_both, cells_below}
use Rattle.rt_strips.proofs.one_mask.stack_both.Goals as goal

passed : (c : goal.In_ok-put_on) → PassesSlab c.loop-both.sweep c.in-Some.slab.bottom c.in-Some.slab.top c.next_slab.new.self
passed c =
    subst (λ (found : Option Slab). MatchOption found (AreBelow c.loop-both.sweep.bars c.loop-both.sweep.height)
    (λ slab. PassesSlab c.loop-both.sweep slab.bottom slab.top c.next_slab.new.self)) c.in-Some.is c.in_ok-slab.ensures.slab

pub loop-both-preserved : goal.loop-both-preserved
loop-both-preserved c =
    let passes = passed c in
    let slab = c.in-Some.slab in
    let are : ArePieces (IsBothColumn c.next_slab.new.self.active) slab.bottom slab.top (map area c.both_pieces_of.new.both.items) =
    subst (λ (bars : List Bar). ArePieces (IsBothColumn bars) slab.bottom slab.top (map area c.both_pieces_of.new.both.items)) c.active.ensures c.in_ok-both_pieces_of.ensures in
    let puts : PutsRow c.loop-both.stack.most (map area c.both_pieces_of.new.both.items) (pile_of c.loop-both.stack) (pile_of c.put_on.new.stack) =
    subst (λ (pieces : List Rect). PutsRow c.loop-both.stack.most (map area pieces) (pile_of c.loop-both.stack) (pile_of c.put_on.new.stack)) c.as_slice.ensures.value
    c.in_ok-put_on.ensures.puts in
    let built = one_slab_of_both c.loop-both.sweep c.next_slab.new.self slab.bottom slab.top passes c.loop-both.stack.most (pile_of c.loop-both.stack) (pile_of c.put_on.new.stack)
    (map area c.both_pieces_of.new.both.items) c.loop-both.invariant.built are puts in
    record {
      bars = passes.same_bars ∙ c.loop-both.invariant.bars;
      most = c.in_ok-put_on.ensures.same ∙ c.loop-both.invariant.most;
      built = subst (λ most. IsBuiltTo (IsBothBarCell c.next_slab.new.self.bars) most c.next_slab.new.self.height (pile_of c.put_on.new.stack)) (sym c.in_ok-put_on.ensures.same)
          (subst (λ (bars : List Bar). IsBuiltTo (IsBothBarCell bars) c.loop-both.stack.most c.next_slab.new.self.height (pile_of c.put_on.new.stack)) (sym passes.same_bars) built);
    }

pub returns : goal.returns
returns c =
    let below : AreBelow c.loop-both.sweep.bars c.loop-both.sweep.height =
    subst (λ (found : Option Slab). MatchOption found (AreBelow c.loop-both.sweep.bars c.loop-both.sweep.height)
    (λ slab. PassesSlab c.loop-both.sweep slab.bottom slab.top c.next_slab.new.self)) c.in_default.is c.in_ok-slab.ensures.slab in
    let whole = built_whole (IsBothBarCell c.loop-both.sweep.bars) c.loop-both.stack.most c.loop-both.sweep.height (pile_of c.loop-both.stack) c.loop-both.invariant.built
    (λ x y h. cells_below c.loop-both.sweep.bars c.loop-both.sweep.height below 0 x y h.0) in
    subst (λ most. AreFirstStrips (IsBothBarCell c.args.sweep.now.bars) most (map area c.loop-both.stack.found.strips.items) c.loop-both.stack.found.count) c.loop-both.invariant.most
    (subst (λ (bars : List Bar). AreFirstStrips (IsBothBarCell bars) c.loop-both.stack.most (map area c.loop-both.stack.found.strips.items) c.loop-both.stack.found.count)
    c.loop-both.invariant.bars whole)
