use Rattle.std.proofs.Common.{◌≡◌, false, map}
use Rattle.std.specs.List.{AllWithin}
use Rattle.rt_strips.specs.Placed.{placed}
use Rattle.rt_pieces.specs.Numbering.{AreLinks, Lowered, IsJoined}
use Rattle.rt_pieces.proofs.numbers.lower_once.Given as goal

abbrev pub invariant-loop-seam : goal.invariant-loop-seam
invariant-loop-seam l = record {
  links : AreLinks l.m (map placed l.strips) l.links;
  lowered : Lowered l.changed l.initial.links l.links;
  joined : l.changed ≡ false → AllWithin (IsJoined l.m (map placed l.strips) l.links) l.seams 0 l.seam-index;
}
