use Rattle.std.specs.List.{AllWithin}
use Rattle.rt_strips.specs.declared.listing.Strip.{Strip}
use Rattle.rt_strips.specs.Placed.{placed}
use Rattle.rt_shapes.specs.Touching.{IsTouching}
use Rattle.rt_shapes.proofs.labels.is_touched.Given as goal

abbrev pub invariant-loop-strip : goal.invariant-loop-strip
invariant-loop-strip l = AllWithin (λ (strip : Strip). ¬ IsTouching (placed strip) l.label) l.strips 0 l.strip-index
