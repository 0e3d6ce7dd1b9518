use Rattle.std.proofs.Common.{arith, subst}
use Rattle.rt_strips.specs.declared.listing.Strip.{Strip}
use Rattle.rt_strips.specs.Placed.{placed}
use Rattle.rt_shapes.specs.Touching.{IsTouching}
use Rattle.rt_shapes.proofs.Touched.{touched_by, touched_by_none}
use Rattle.rt_shapes.proofs.labels.is_touched.Goals as goal

pub returns-then-touches : goal.returns-then-touches
returns-then-touches c =
    touched_by c.args.strips.now c.requires c.args.label.now c.loop-strip.strip-index c.strip-item.result c.loop-strip-test.true
    (subst (λ (s : Strip). IsTouching (placed s) c.args.label.now) c.strip-item.is c.if-touches.ensures)

pub returns : goal.returns
returns c =
    touched_by_none c.args.strips.now c.requires c.args.label.now (λ k d low h. c.loop-strip.invariant k d low (omega (arith, h)))
