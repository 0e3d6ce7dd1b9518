use Rattle.std.proofs.Common.{◌≤◌, ◌<◌, length, map, get_or}
use Rattle.rt_strips.specs.Placed.{placed}
use Rattle.rt_pieces.specs.Members.{AreOfOnePiece}
use Rattle.rt_pieces.proofs.numbers.end_of.Given as goal

abbrev pub invariant-loop-end : goal.invariant-loop-end
invariant-loop-end l = record {
  there : l.end < length l.links;
  piece : AreOfOnePiece l.m (map placed l.strips) l.i l.end;
  down : l.end ≤ get_or l.links l.i 0;
}

abbrev pub decreases-loop-end : goal.decreases-loop-end
decreases-loop-end l = l.end
