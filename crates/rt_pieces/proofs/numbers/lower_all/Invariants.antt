use Rattle.std.proofs.Common.{◌≡◌, ◌+◌, false, map, cond, sum, All}
use Rattle.rt_strips.specs.Placed.{placed}
use Rattle.rt_pieces.specs.Numbering.{AreLinks, IsJoined}
use Rattle.rt_pieces.proofs.numbers.lower_all.Given as goal

abbrev pub invariant-loop-changed : goal.invariant-loop-changed
invariant-loop-changed l = record {
  links : AreLinks l.m (map placed l.strips) l.links;
  joined : l.changed ≡ false → All (IsJoined l.m (map placed l.strips) l.links) l.seams;
}

abbrev pub decreases-loop-changed : goal.decreases-loop-changed
decreases-loop-changed l = sum l.links + cond l.changed 1 0
