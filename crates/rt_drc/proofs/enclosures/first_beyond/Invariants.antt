use Rattle.std.proofs.Common.{map}
use Rattle.rt_strips.specs.Placed.{placed}
use Rattle.rt_drc.proofs.Enclosed.{HaveRoomBefore}
use Rattle.rt_drc.proofs.enclosures.first_beyond.Given as goal

abbrev pub invariant-loop-i : goal.invariant-loop-i
invariant-loop-i l = HaveRoomBefore l.counted (map placed l.strips) l.number l.i
