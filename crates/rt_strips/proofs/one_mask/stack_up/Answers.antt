use Rattle.std.proofs.Common.{◌∙◌, Option, List, subst, sym, map}
use Rattle.std.specs.Option.{MatchOption}
use Rattle.rt_base.specs.declared.plane.Rect.{Rect}
use Rattle.rt_base.specs.Plane.{area}
use Rattle.rt_sweep.specs.declared.bar.Bar.{Bar}
use Rattle.rt_sweep.specs.declared.step.Slab.{Slab}
use Rattle.rt_sweep.specs.Slabs.{AreBelow, PassesSlab}
use Rattle.rt_strips.specs.OneMask.{AreFirstStrips}
use Rattle.rt_strips.specs.Stacks.{PutsRow}
use Rattle.rt_strips.specs.Pieces.{IsColumnOf, ArePieces}
use Rattle.rt_strips.specs.Heights.{IsBarCell, IsBuiltTo, pile_of}
use Rattle.rt_strips.proofs.Built.{built_whole}
use Rattle.rt_strips.proofs.Crossed.{one_slab, cells_below}
use Rattle.rt_strips.proofs.one_mask.stack_up.Goals as goal

passed : (c : goal.In_ok-put_on) → PassesSlab c.loop-pieces.sweep c.in-Some.slab.bottom c.in-Some.slab.top c.next_slab.new.self
passed c =
    subst (λ (found : Option Slab). MatchOption found (AreBelow c.loop-pieces.sweep.bars c.loop-pieces.sweep.height)
    (λ slab. PassesSlab c.loop-pieces.sweep slab.bottom slab.top c.next_slab.new.self)) c.in-Some.is c.in_ok-slab.ensures.slab

pub loop-pieces-preserved : goal.loop-pieces-preserved
loop-pieces-preserved c =
    let passes = passed c in
    let slab = c.in-Some.slab in
    let are : ArePieces (IsColumnOf c.next_slab.new.self.active 0) slab.bottom slab.top (map area c.pieces_of.new.into.items) =
    subst (λ (bars : List Bar). ArePieces (IsColumnOf bars 0) slab.bottom slab.top (map area c.pieces_of.new.into.items)) c.active.ensures c.in_ok-pieces_of.ensures in
    let puts : PutsRow c.loop-pieces.stack.most (map area c.pieces_of.new.into.items) (pile_of c.loop-pieces.stack) (pile_of c.put_on.new.stack) =
    subst (λ (pieces : List Rect). PutsRow c.loop-pieces.stack.most (map area pieces) (pile_of c.loop-pieces.stack) (pile_of c.put_on.new.stack)) c.as_slice.ensures.value
    c.in_ok-put_on.ensures.puts in
    let built = one_slab c.loop-pieces.sweep c.next_slab.new.self slab.bottom slab.top passes c.loop-pieces.stack.most (pile_of c.loop-pieces.stack) (pile_of c.put_on.new.stack)
    (map area c.pieces_of.new.into.items) c.loop-pieces.invariant.built are puts in
    record {
      bars = passes.same_bars ∙ c.loop-pieces.invariant.bars;
      most = c.in_ok-put_on.ensures.same ∙ c.loop-pieces.invariant.most;
      built = subst (λ most. IsBuiltTo (IsBarCell c.next_slab.new.self.bars 0) most c.next_slab.new.self.height (pile_of c.put_on.new.stack)) (sym c.in_ok-put_on.ensures.same)
          (subst (λ (bars : List Bar). IsBuiltTo (IsBarCell bars 0) c.loop-pieces.stack.most c.next_slab.new.self.height (pile_of c.put_on.new.stack)) (sym passes.same_bars) built);
    }

pub returns : goal.returns
returns c =
    let below : AreBelow c.loop-pieces.sweep.bars c.loop-pieces.sweep.height =
    subst (λ (found : Option Slab). MatchOption found (AreBelow c.loop-pieces.sweep.bars c.loop-pieces.sweep.height)
    (λ slab. PassesSlab c.loop-pieces.sweep slab.bottom slab.top c.next_slab.new.self)) c.in_default.is c.in_ok-slab.ensures.slab in
    let whole = built_whole (IsBarCell c.loop-pieces.sweep.bars 0) c.loop-pieces.stack.most c.loop-pieces.sweep.height (pile_of c.loop-pieces.stack) c.loop-pieces.invariant.built
    (cells_below c.loop-pieces.sweep.bars c.loop-pieces.sweep.height below 0) in
    subst (λ most. AreFirstStrips (IsBarCell c.args.sweep.now.bars 0) most (map area c.loop-pieces.stack.found.strips.items) c.loop-pieces.stack.found.count) c.loop-pieces.invariant.most
    (subst (λ (bars : List Bar). AreFirstStrips (IsBarCell bars 0) c.loop-pieces.stack.most (map area c.loop-pieces.stack.found.strips.items) c.loop-pieces.stack.found.count)
    c.loop-pieces.invariant.bars whole)
