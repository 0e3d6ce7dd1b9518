use Rattle.std.proofs.Common.{◌≤◌, ◌<◌, ◌-◌, max}
use Rattle.picture.specs.Scale.{IsPowerOfTen}
use Rattle.picture.proofs.scale.round_length.Given as goal

-- the unit is a power of ten that isn't too long
abbrev pub invariant-loop-unit : goal.invariant-loop-unit
invariant-loop-unit l = IsPowerOfTen l.unit × (0 < l.unit) × (l.unit ≤ max 1 l.most)

-- what is left to the longest length
abbrev pub decreases-loop-unit : goal.decreases-loop-unit
decreases-loop-unit l = l.most - l.unit
