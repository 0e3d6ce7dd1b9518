use Rattle.std.proofs.Common.{ℕ, ◌+◌, List, map, subst, sym}
use Rattle.rt_strips.specs.Placed.{placed}
use Rattle.rt_shapes.proofs.UpperLower.{AreLowersBefore}
use Rattle.rt_shapes.proofs.Telling.{lower_more}
use Rattle.rt_shapes.proofs.sides.lower_masks.Goals as goal

pub loop-i-preserved : goal.loop-i-preserved
loop-i-preserved c =
    let strips = map placed c.args.strips.now in
    subst (λ (l : List ℕ). AreLowersBefore c.args.tech.now strips (c.loop-i.i + 1) l) (sym c.in_ok-push-in-Some.ensures.ok)
    (lower_more c.args.tech.now strips c.loop-i.i c.loop-i.lowers c.in-Some.lower c.loop-i.invariant c.in-Some.ensures)
