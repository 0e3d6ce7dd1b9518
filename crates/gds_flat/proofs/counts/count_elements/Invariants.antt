use Rattle.std.proofs.Common.{take}
use Rattle.gds_flat.specs.Counting.{HasCountOf}
use Rattle.gds_flat.proofs.counts.count_elements.Given as goal

abbrev pub invariant-loop-element : goal.invariant-loop-element
invariant-loop-element l = HasCountOf l.names.structures.now l.tech (take l.element-index l.elements) l.total
