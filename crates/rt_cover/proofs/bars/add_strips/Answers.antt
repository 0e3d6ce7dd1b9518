use Rattle.std.proofs.Common.{◌+◌, ◌∙◌, ap, Global, length, map, refl, subst, sym, Vec}
use Rattle.rt_sweep.specs.declared.bar.Bar.{Bar}
use Rattle.rt_strips.specs.Placed.{placed}
use Rattle.rt_cover.specs.Bars.{AreBarsOf}
use Rattle.rt_cover.proofs.Listing.{strip_more, strip_passed}
use Rattle.rt_cover.proofs.bars.add_strips.Goals as goal
use Rattle.rt_cover.proofs.bars.add_strips.Goals.{then-strip-m+in_ok-push, else-strip-m}

pub loop-i-preserved : goal.loop-i-preserved
loop-i-preserved c =
    let strips = c.args.strips.now in
    let areas = c.args.areas.now in
    elim c.if-strip-m.branch [
      | then-strip-m+in_ok-push w ↦
          subst (AreBarsOf c.args.m (map placed strips) (c.loop-i.i + 1) areas (length areas)) (sym (ap (λ (v : Vec Bar Global). v.items) w.bars-is ∙ w.in_ok-push.ensures.items))
          (strip_more c.args.m strips c.loop-i.i c.index-strips-i.result areas c.loop-i.bars.items (length areas + c.loop-i.i) c.loop-i-test.true c.index-strips-i.is w.if-strip-m.true refl
          c.loop-i.invariant)
      | else-strip-m w ↦
          subst (AreBarsOf c.args.m (map placed strips) (c.loop-i.i + 1) areas (length areas)) (sym (ap (λ (v : Vec Bar Global). v.items) w.bars-is))
          (strip_passed c.args.m strips c.loop-i.i c.index-strips-i.result areas c.loop-i.bars.items c.loop-i-test.true c.index-strips-i.is w.if-strip-m.false c.loop-i.invariant)
    ]
