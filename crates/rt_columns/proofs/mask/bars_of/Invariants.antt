use Rattle.std.proofs.Common.{map}
use Rattle.rt_strips.specs.Placed.{placed}
use Rattle.rt_columns.specs.Sides.{side_of}
use Rattle.rt_columns.proofs.Kept.{AreBarsTo}
use Rattle.rt_columns.proofs.mask.bars_of.Given as goal

abbrev pub invariant-loop-number : goal.invariant-loop-number
invariant-loop-number l = AreBarsTo (map placed l.strips.list) (side_of l.lefts) (side_of l.rights) l.mask l.number l.bars.items
