use Rattle.std.proofs.Common.{map}
use Rattle.rt_strips.specs.Placed.{placed}
use Rattle.rt_drc.specs.Following.{IsNextBefore}
use Rattle.rt_drc.proofs.gaps.next_strip.Given as goal

abbrev pub invariant-loop-i : goal.invariant-loop-i
invariant-loop-i l = IsNextBefore l.m l.cell (map placed l.strips) l.i l.next
