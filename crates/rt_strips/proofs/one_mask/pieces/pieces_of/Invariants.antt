use Rattle.std.proofs.Common.{map}
use Rattle.rt_base.specs.Plane.{area}
use Rattle.rt_strips.proofs.Columns.{ArePiecesTo}
use Rattle.rt_strips.proofs.one_mask.pieces.pieces_of.Given as goal

abbrev pub invariant-loop-bar : goal.invariant-loop-bar
invariant-loop-bar l = ArePiecesTo l.active l.bar-index l.tag l.slab.bottom l.slab.top (map area l.into.items)
