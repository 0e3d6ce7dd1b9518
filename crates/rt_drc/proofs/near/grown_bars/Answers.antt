use Rattle.std.proofs.Common.{◌+◌, ap, Global, map, refl, subst, sym, Vec, ◌∙◌}
use Rattle.rt_sweep.specs.declared.bar.Bar.{Bar}
use Rattle.rt_strips.specs.declared.listing.Strip.{Strip}
use Rattle.rt_strips.specs.Placed.{placed}
use Rattle.rt_pieces.specs.Members.{IsOf}
use Rattle.rt_drc.specs.Nearness.{AreBarsBefore}
use Rattle.rt_pieces.proofs.Reading.{on_mask, off_mask}
use Rattle.rt_drc.proofs.Nearby.{bars_more, bars_same}
use Rattle.rt_drc.proofs.near.grown_bars.Goals as goal
use Rattle.rt_drc.proofs.near.grown_bars.Goals.{then-strip-m+in_ok-push, else-strip-m}

pub loop-i-preserved : goal.loop-i-preserved
loop-i-preserved c =
    let strips = c.args.strips.now in
    let member = IsOf c.args.m (map placed strips) in
    let strip = c.index-strips-i.result in
    elim c.if-strip-m.branch [
      | then-strip-m+in_ok-push w ↦
          subst (AreBarsBefore member c.args.reach.now (map placed strips) (c.loop-i.i + 1)) (sym (ap (λ (v : Vec Bar Global). v.items) w.bars-is ∙ w.in_ok-push.ensures.items))
          (bars_more member c.args.reach.now strips c.loop-i.i strip c.loop-i.bars.items (record { at = w.grown.result; tag = c.loop-i.i })
          c.loop-i-test.true c.index-strips-i.is (on_mask strips c.loop-i.i strip c.args.m c.loop-i-test.true (ap (λ (s : Strip). s.mask) (sym c.index-strips-i.is) ∙ w.if-strip-m.true))
          refl w.grown.ensures c.loop-i.invariant)
      | else-strip-m w ↦
          subst (AreBarsBefore member c.args.reach.now (map placed strips) (c.loop-i.i + 1)) (sym (ap (λ (v : Vec Bar Global). v.items) w.bars-is))
          (bars_same member c.args.reach.now (map placed strips) c.loop-i.i c.loop-i.bars.items
          (off_mask strips c.loop-i.i strip c.args.m c.loop-i-test.true (λ e. w.if-strip-m.false (ap (λ (s : Strip). s.mask) c.index-strips-i.is ∙ e))) c.loop-i.invariant)
    ]
