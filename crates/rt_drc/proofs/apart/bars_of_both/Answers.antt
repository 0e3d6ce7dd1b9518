use Rattle.std.proofs.Common.{◌+◌, ap, Global, map, refl, subst, sym, Vec, ◌∙◌}
use Rattle.rt_base.specs.Plane.{area}
use Rattle.rt_sweep.specs.declared.bar.Bar.{Bar}
use Rattle.rt_strips.specs.declared.listing.Strip.{Strip}
use Rattle.rt_strips.specs.Placed.{placed}
use Rattle.rt_drc.specs.Nearness.{grown, AreBarsBefore}
use Rattle.rt_drc.specs.Distances.{TakesPart}
use Rattle.rt_drc.proofs.Nearby.{bars_more, bars_same}
use Rattle.rt_drc.proofs.apart.bars_of_both.Goals as goal
use Rattle.rt_drc.proofs.apart.bars_of_both.Goals.{then-takes_part+in_ok-push, else-takes_part}

pub loop-i-preserved : goal.loop-i-preserved
loop-i-preserved c =
    let strips = c.args.strips.now in
    let member = TakesPart c.args.counted.now c.args.other (map placed strips) in
    elim c.if-takes_part.branch [
      | then-takes_part+in_ok-push w ↦
          subst (AreBarsBefore member c.args.reach.now (map placed strips) (c.loop-i.i + 1)) (sym (ap (λ (v : Vec Bar Global). v.items) w.bars-is ∙ w.in_ok-push.ensures.items))
          (bars_more member c.args.reach.now strips c.loop-i.i w.index-strips-i.result c.loop-i.bars.items (record { at = w.grown.result; tag = c.loop-i.i })
          c.loop-i-test.true w.index-strips-i.is w.if-takes_part.ensures refl
          (w.grown.ensures ∙ ap (λ (s : Strip). grown c.args.reach.now (area s.at)) (sym w.index-strips-i.is)) c.loop-i.invariant)
      | else-takes_part w ↦
          subst (AreBarsBefore member c.args.reach.now (map placed strips) (c.loop-i.i + 1)) (sym (ap (λ (v : Vec Bar Global). v.items) w.bars-is))
          (bars_same member c.args.reach.now (map placed strips) c.loop-i.i c.loop-i.bars.items w.if-takes_part.ensures c.loop-i.invariant)
    ]
