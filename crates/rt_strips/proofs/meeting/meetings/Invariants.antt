use Rattle.std.proofs.Common.{length, ◌-◌, ◌+◌}
use Rattle.rt_strips.proofs.Meetings.{AreMeetingsSoFar}
use Rattle.rt_strips.proofs.meeting.meetings.Given as goal

abbrev pub invariant-loop-i : goal.invariant-loop-i
invariant-loop-i l = AreMeetingsSoFar l.ends l.begins l.i l.j l.found.items

abbrev pub decreases-loop-i : goal.decreases-loop-i
decreases-loop-i l = (length l.ends - l.i) + (length l.begins - l.j)
