use Rattle.std.proofs.Common.{◌+◌, List, Option, map, subst, sym, ◌∙◌}
use Rattle.rt_base.specs.declared.plane.Cell.{Cell}
use Rattle.rt_strips.specs.Placed.{placed}
use Rattle.rt_shapes.specs.Cutting.{AreBareCells}
use Rattle.rt_shapes.proofs.Telling.{bare_more}
use Rattle.rt_shapes.proofs.bare.bare_table.Goals as goal

pub loop-m-preserved : goal.loop-m-preserved
loop-m-preserved c =
    let strips = c.args.strips.now in
    subst (λ (t : List (List (Option Cell))). AreBareCells (map placed strips) (c.loop-m.m + 1) t) (sym c.in_ok-push.ensures.ok)
    (bare_more strips c.as_slice.result.now (c.as_slice.ensures.value ∙ c.in_ok-places.ensures) c.loop-m.m c.loop-m.table c.in_ok-first_missing.field-0 c.loop-m.invariant
    c.in_ok-first_missing.ensures)
