use Rattle.std.proofs.Common.{◌≡◌, ◌++◌, drop, All}
use Rattle.gds_slabs.specs.Sweep.{toggles_from, IsSmallToggle}
use Rattle.gds_slabs.proofs.toggles.toggles_on.Given as goal

-- the toggles so far, and those of what is left of the line
abbrev pub invariant-loop-point : goal.invariant-loop-point
invariant-loop-point l = record {
  listed : l.list.items ++ toggles_from l.last (drop l.point-index l.rest) ≡ toggles_from l.first l.rest;
  small : All IsSmallToggle l.list.items;
}
