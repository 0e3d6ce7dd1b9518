use Rattle.std.proofs.Common.{map, subst}
use Rattle.std.proofs.lemmas.List.{get_or_default}
use Rattle.std.proofs.lemmas.List.Elements.{AllWithin-more}
use Rattle.rt_strips.specs.declared.contact.Seam.{Seam}
use Rattle.rt_strips.specs.Placed.{placed}
use Rattle.rt_shapes.specs.Cutting.{IsBentAt}
use Rattle.rt_shapes.proofs.bent.first_bent.Goals as goal

abbrev none : Seam
none = record { below = 0; above = 0 }

pub loop-seam-preserved : goal.loop-seam-preserved
loop-seam-preserved c =
    let seams = c.args.seams.now in
    let i = c.loop-seam.seam-index in
    AllWithin-more (λ (seam : Seam). ¬ IsBentAt c.args.tech.now (map placed c.args.strips.now) seam) seams 0 i c.loop-seam.invariant
    (λ d. subst (λ (seam : Seam). ¬ IsBentAt c.args.tech.now (map placed c.args.strips.now) seam) (get_or_default seams i none d c.loop-seam-test.true) c.if-is_bent.ensures)
