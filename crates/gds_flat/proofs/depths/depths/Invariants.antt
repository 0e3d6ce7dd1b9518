use Rattle.std.proofs.Common.{◌≡◌, length}
use Rattle.gds_flat.specs.Depths.{AreDepths}
use Rattle.gds_flat.proofs.depths.depths.Given as goal

abbrev pub invariant-loop-structure : goal.invariant-loop-structure
invariant-loop-structure l = (length l.depths.items ≡ l.structure-index) × AreDepths l.names.structures.now l.walk.finish.items l.depths.items
