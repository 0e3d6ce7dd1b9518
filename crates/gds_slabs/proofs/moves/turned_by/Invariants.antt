use Rattle.std.proofs.Common.{◌≡◌}
use Rattle.rt_base.specs.Plane.{area}
use Rattle.gds_slabs.specs.Steps.{rect_turned}
use Rattle.gds_slabs.proofs.moves.turned_by.Given as goal

-- turned by the quarters so far
abbrev pub invariant-loop-quarter : goal.invariant-loop-quarter
invariant-loop-quarter l = area l.turned ≡ rect_turned l._quarter (area l.rect)
