use Rattle.std.proofs.Common.{◌++◌, length, map}
use Rattle.rt_base.specs.Plane.{area}
use Rattle.rt_strips.specs.OneMask.{CoverTheSame}
use Rattle.rt_strips.proofs.one_mask.parts.merged_by_parts.Given as goal

-- what is merged covers, with the rest, what all rectangles cover
abbrev pub invariant-loop-rest : goal.invariant-loop-rest
invariant-loop-rest l = CoverTheSame (map area (l.merged.items ++ l.rest)) (map area l.rects)

abbrev pub decreases-loop-rest : goal.decreases-loop-rest
decreases-loop-rest l = length l.rest
