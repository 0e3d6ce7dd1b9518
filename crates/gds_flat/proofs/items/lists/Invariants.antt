use Rattle.std.proofs.Common.{◌≡◌, length}
use Rattle.gds_flat.specs.Building.{AreLists}
use Rattle.gds_flat.proofs.items.lists.Given as goal

abbrev pub invariant-loop-structure : goal.invariant-loop-structure
invariant-loop-structure l = record {
  count : length l.lists.items ≡ l.structure-index;
  are : AreLists l.names.structures.now l.tech l.walk.finish.items l.lists.items;
}
