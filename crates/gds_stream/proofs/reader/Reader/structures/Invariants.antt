use Rattle.std.proofs.Common.{length}
use Rattle.gds_grammar.specs.Format.{structure}
use Rattle.gds_stream.specs.Gives.{AddStructures}
use Rattle.gds_stream.proofs.Looping.{InRounds}
use Rattle.gds_stream.proofs.reader.Reader.structures.Given as goal

abbrev pub invariant-loop-structures : goal.invariant-loop-structures
invariant-loop-structures l = InRounds structure (λ items. AddStructures items l.structures) l.fn.self l.self

abbrev pub decreases-loop-structures : goal.decreases-loop-structures
decreases-loop-structures l = length l.self.rest
