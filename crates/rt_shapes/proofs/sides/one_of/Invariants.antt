use Rattle.std.proofs.Common.{map}
use Rattle.std.specs.List.{AllWithin}
use Rattle.rt_strips.specs.Placed.{placed}
use Rattle.rt_shapes.specs.Sides.{CoversStrip}
use Rattle.rt_shapes.proofs.sides.one_of.Given as goal

abbrev pub invariant-loop-k : goal.invariant-loop-k
invariant-loop-k l = AllWithin (λ m. ¬ CoversStrip (map placed l.strips) l.i m) l.masks 0 l.k
