use Rattle.std.proofs.Common.{◌+◌, ap, Global, map, subst, sym, Vec, ◌∙◌}
use Rattle.rt_base.specs.declared.plane.Rect.{Rect}
use Rattle.rt_strips.specs.Placed.{placed}
use Rattle.rt_drc.specs.Enclosing.{AreGrownOf}
use Rattle.rt_drc.proofs.Enclosed.{areas_more, areas_same}
use Rattle.rt_drc.proofs.enclosures.grown_areas.Goals as goal
use Rattle.rt_drc.proofs.enclosures.grown_areas.Goals.{then-counts+in_ok-push, else-counts}

pub loop-i-preserved : goal.loop-i-preserved
loop-i-preserved c =
    let strips = c.args.strips.now in
    elim c.if-counts.branch [
      | then-counts+in_ok-push w ↦
          subst (AreGrownOf c.args.counted.now (map placed strips) c.args.number.now (c.loop-i.i + 1)) (sym (ap (λ (v : Vec Rect Global). v.items) w.areas-is ∙ w.in_ok-push.ensures.items))
          (areas_more c.args.counted.now strips c.args.number.now c.loop-i.i w.index-strips-i.result c.loop-i.areas.items w.grown_around.result
          c.loop-i-test.true w.if-counts.ensures w.grown_around.ensures c.loop-i.invariant)
      | else-counts w ↦
          subst (AreGrownOf c.args.counted.now (map placed strips) c.args.number.now (c.loop-i.i + 1)) (sym (ap (λ (v : Vec Rect Global). v.items) w.areas-is))
          (areas_same c.args.counted.now strips c.args.number.now c.loop-i.i c.loop-i.areas.items w.if-counts.ensures c.loop-i.invariant)
    ]
