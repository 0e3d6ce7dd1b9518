use Rattle.std.proofs.Common.{map}
use Rattle.rt_base.specs.Plane.{area}
use Rattle.rt_strips.specs.Goings.{opened}
use Rattle.rt_strips.proofs.Rows.{IsRowLoop}
use Rattle.rt_strips.proofs.one_mask.stack.put_row.Given as goal

abbrev pub invariant-loop-piece : goal.invariant-loop-piece
invariant-loop-piece l =
    IsRowLoop l.most (map area l.pieces) (record { kept = map area l.fn.found.strips.items; count = l.fn.found.count; going = map opened l.going })
    l.piece-index l.i (map area l.found.strips.items) l.found.count (map opened l.into.items)
