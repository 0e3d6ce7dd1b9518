use Rattle.std.proofs.Common.{◌≡◌, ℕ, ◌<◌, length, map, get_or}
use Rattle.rt_strips.specs.declared.meeting.Edge.{Edge}
use Rattle.rt_strips.specs.Placed.{placed, strip_at}
use Rattle.rt_strips.specs.Meetings.{edge_of}
use Rattle.rt_strips.proofs.meeting.edges.Given as goal

abbrev pub invariant-loop-i : goal.invariant-loop-i
invariant-loop-i l =
    (length l.found.items ≡ l.i) × ((k : ℕ) (d : Edge) → k < l.i → get_or l.found.items k d ≡ edge_of l.side (strip_at (map placed l.strips) k) k)
