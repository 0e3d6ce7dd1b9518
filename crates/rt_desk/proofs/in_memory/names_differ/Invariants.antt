use Rattle.std.proofs.Common.{◌↔◌, length}
use Rattle.rt_desk.specs.Entries.{NamesDiffer}
use Rattle.rt_desk.proofs.in_memory.names_differ.Given as goal

abbrev pub invariant-loop-file : goal.invariant-loop-file
invariant-loop-file l = NamesDiffer l.fn.files ↔ NamesDiffer l.rest

abbrev pub decreases-loop-file : goal.decreases-loop-file
decreases-loop-file l = length l.rest
