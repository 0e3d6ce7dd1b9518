use Rattle.std.proofs.Common.{◌≡◌, ◌++◌, [], map, drop}
use Rattle.rt_base.specs.Plane.{area}
use Rattle.gds_slabs.specs.Sweep.{swept}
use Rattle.gds_slabs.proofs.sweep.rects_of.Given as goal

-- the rectangles so far, and those of the toggles that are left
abbrev pub invariant-loop-toggle : goal.invariant-loop-toggle
invariant-loop-toggle l = map area l.rects ++ swept l.last.y l.columns.keys (drop l.toggle-index l.toggles) ≡ swept l.initial.last.y [] l.toggles
