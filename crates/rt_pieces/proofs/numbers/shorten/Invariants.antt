use Rattle.std.proofs.Common.{◌≤◌, map, sum}
use Rattle.rt_strips.specs.Placed.{placed}
use Rattle.rt_pieces.specs.Numbering.{AreLinks}
use Rattle.rt_pieces.proofs.numbers.shorten.Given as goal

abbrev pub invariant-loop-i : goal.invariant-loop-i
invariant-loop-i l = record {
  links : AreLinks l.m (map placed l.strips) l.links;
  lowered : sum l.links ≤ sum l.initial.links;
}
