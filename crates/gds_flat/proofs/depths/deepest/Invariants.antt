use Rattle.std.proofs.Common.{◌≤◌, length, take}
use Rattle.gds_flat.specs.Depths.{IsDeepest}
use Rattle.gds_flat.proofs.depths.deepest.Given as goal

abbrev pub invariant-loop-element : goal.invariant-loop-element
invariant-loop-element l = (l.most ≤ length l.depths) × IsDeepest l.names.structures.now (take l.element-index l.elements) l.most
