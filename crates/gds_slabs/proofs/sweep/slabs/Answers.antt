use Rattle.std.proofs.Common.{map, arith}
use Rattle.std.proofs.lemmas.Int.{ints}
use Rattle.std.proofs.lemmas.Result.{IfOk-weaker}
use Rattle.rt_base.specs.Plane.{area}
use Rattle.gds_slabs.specs.Slabs.{IsSlabs}
use Rattle.gds_slabs.specs.Steps.{AreInReach}
use Rattle.gds_slabs.proofs.Nearness.{near_swept}
use Rattle.gds_slabs.proofs.Polygons.{slabs_swept}
use Rattle.gds_slabs.proofs.sweep.slabs.Goals as goal

pub returns-clause-slabs : goal.returns-clause-slabs
returns-clause-slabs c =
    IfOk-weaker c.rects_of.result _ (λ list. IsSlabs c.args.points.now (map area list))
    (λ list e.
    slabs_swept c.args.points.now c.requires.closed c.requires.straight c.in_ok-toggles.toggles.items
    c.in_ok-toggles.ensures.permutation c.in_ok-toggles.ensures.ascending c.deref.result.now c.deref.ensures.value _ (map area list) e)
    c.rects_of.ensures

pub returns-clause-near : goal.returns-clause-near
returns-clause-near c =
    IfOk-weaker c.rects_of.result _ AreInReach
    (λ list e.
    near_swept _ c.in_ok-toggles.toggles.items c.deref.result.now list (record { low = omega (arith, ints); high = omega (arith, ints) })
    c.in_ok-toggles.ensures.small c.deref.ensures.value e)
    c.rects_of.ensures
