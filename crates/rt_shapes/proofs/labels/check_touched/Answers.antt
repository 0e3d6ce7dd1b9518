use Rattle.std.proofs.Common.{map, subst}
use Rattle.std.proofs.lemmas.List.{get_or_default}
use Rattle.std.proofs.lemmas.List.Elements.{AllWithin-more}
use Rattle.rt_layout.specs.declared.layout.Label.{Label}
use Rattle.rt_strips.specs.Placed.{placed}
use Rattle.rt_view.specs.Shapes.{Touches}
use Rattle.rt_shapes.specs.Cutting.{cells_by}
use Rattle.rt_shapes.proofs.labels.check_touched.Goals as goal

pub loop-label-preserved : goal.loop-label-preserved
loop-label-preserved c =
    let strips = map placed c.args.strips.now in
    let labels = c.args.labels.now in
    let i = c.loop-label.label-index in
    AllWithin-more (λ (l : Label). Touches (cells_by strips l.mask) l.at.0 l.at.1) labels 0 i c.loop-label.invariant
    (λ d. subst (λ (l : Label). Touches (cells_by strips l.mask) l.at.0 l.at.1) (get_or_default labels i c.label-item.result d c.loop-label-test.true)
    (subst (λ (l : Label). Touches (cells_by strips l.mask) l.at.0 l.at.1) c.label-item.is c.if-not-is_touched.ensures))
