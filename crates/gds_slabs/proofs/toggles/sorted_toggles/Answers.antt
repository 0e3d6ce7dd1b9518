use Rattle.std.proofs.lemmas.List.Sorted.{All-permutation}
use Rattle.gds_slabs.specs.Sweep.{IsSmallToggle}
use Rattle.gds_slabs.proofs.Ordered.{ascending_from_sorted}
use Rattle.gds_slabs.proofs.toggles.sorted_toggles.Goals as goal

pub returns-clause-ascending : goal.returns-clause-ascending
returns-clause-ascending c = ascending_from_sorted c.sort.new.self.items c.in_ok-sort.ensures.sorted

pub returns-clause-small : goal.returns-clause-small
returns-clause-small c = All-permutation IsSmallToggle c.in_ok-list.list.items c.sort.new.self.items c.in_ok-sort.ensures.permutation c.in_ok-list.ensures.small
