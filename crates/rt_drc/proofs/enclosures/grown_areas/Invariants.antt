use Rattle.std.proofs.Common.{map}
use Rattle.rt_strips.specs.Placed.{placed}
use Rattle.rt_drc.specs.Enclosing.{AreGrownOf}
use Rattle.rt_drc.proofs.enclosures.grown_areas.Given as goal

abbrev pub invariant-loop-i : goal.invariant-loop-i
invariant-loop-i l = AreGrownOf l.counted (map placed l.strips) l.number l.i l.areas.items
