use Rattle.std.proofs.Common.{◌≡◌, ◌≤◌, length, take}
use Rattle.gds_grammar.specs.Conditions.{trim}
use Rattle.gds_stream.proofs.data.without_zeros.Given as goal

abbrev pub invariant-loop-end : goal.invariant-loop-end
invariant-loop-end l = (l.end ≤ length l.bytes) × (trim (take l.end l.bytes) ≡ trim l.bytes)

abbrev pub decreases-loop-end : goal.decreases-loop-end
decreases-loop-end l = l.end
