use Rattle.std.proofs.Common.{map}
use Rattle.rt_strips.specs.Placed.{placed}
use Rattle.rt_strips.proofs.Marks.{AreMarksSoFar}
use Rattle.rt_strips.proofs.channels.marks.Given as goal

abbrev pub invariant-loop-meeting : goal.invariant-loop-meeting
invariant-loop-meeting l = AreMarksSoFar (map placed l.strips) l.meeting-items l.meeting-index l.touched.items
