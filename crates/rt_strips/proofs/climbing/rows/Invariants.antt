use Rattle.std.proofs.Common.{map}
use Rattle.rt_strips.specs.Placed.{placed}
use Rattle.rt_strips.proofs.Chains.{AreClimbsSoFar}
use Rattle.rt_strips.proofs.climbing.rows.Given as goal

abbrev pub invariant-loop-meeting : goal.invariant-loop-meeting
invariant-loop-meeting l = AreClimbsSoFar (map placed l.strips) l.meeting-items l.width l.meeting-index l.words.items
