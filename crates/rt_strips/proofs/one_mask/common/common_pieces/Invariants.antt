use Rattle.std.proofs.Common.{◌+◌, ◌-◌, length, map}
use Rattle.rt_base.specs.Plane.{area}
use Rattle.rt_strips.proofs.Commons.{IsCommonLoop}
use Rattle.rt_strips.proofs.one_mask.common.common_pieces.Given as goal

abbrev pub invariant-loop-i : goal.invariant-loop-i
invariant-loop-i l = IsCommonLoop (map area l.first) (map area l.second) l.i l.j (map area l.into.items)

abbrev pub decreases-loop-i : goal.decreases-loop-i
decreases-loop-i l = (length l.first - l.i) + (length l.second - l.j)
