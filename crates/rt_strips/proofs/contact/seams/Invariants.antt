use Rattle.std.proofs.Common.{◌≡◌, map, take}
use Rattle.rt_strips.proofs.SeamList.{seam_at}
use Rattle.rt_strips.proofs.contact.seams.Given as goal

abbrev pub invariant-loop-meeting : goal.invariant-loop-meeting
invariant-loop-meeting l = l.seams ≡ map seam_at (take l.meeting-index l.meeting-items)
