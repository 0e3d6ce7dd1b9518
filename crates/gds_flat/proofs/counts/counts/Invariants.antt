use Rattle.std.proofs.Common.{◌≡◌, length}
use Rattle.gds_flat.specs.Counting.{AreFirstCounts}
use Rattle.gds_flat.proofs.counts.counts.Given as goal

abbrev pub invariant-loop-structure : goal.invariant-loop-structure
invariant-loop-structure l = (length l.counts.items ≡ l.structure-index) × AreFirstCounts l.names.structures.now l.tech l.walk.finish.items l.counts.items
