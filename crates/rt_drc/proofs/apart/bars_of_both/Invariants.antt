use Rattle.std.proofs.Common.{map}
use Rattle.rt_strips.specs.Placed.{placed}
use Rattle.rt_drc.specs.Nearness.{AreBarsBefore}
use Rattle.rt_drc.specs.Distances.{TakesPart}
use Rattle.rt_drc.proofs.apart.bars_of_both.Given as goal

abbrev pub invariant-loop-i : goal.invariant-loop-i
invariant-loop-i l = AreBarsBefore (TakesPart l.counted l.other (map placed l.strips)) l.reach (map placed l.strips) l.i l.bars.items
