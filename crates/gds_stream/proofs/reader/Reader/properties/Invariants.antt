use Rattle.std.proofs.Common.{length}
use Rattle.gds_grammar.specs.Format.{property}
use Rattle.gds_stream.proofs.Looping.{InRounds}
use Rattle.gds_stream.proofs.reader.Reader.properties.Given as goal

abbrev pub invariant-loop-self : goal.invariant-loop-self
invariant-loop-self l = InRounds property (λ _. Unit {0}) l.fn.self l.self

abbrev pub decreases-loop-self : goal.decreases-loop-self
decreases-loop-self l = length l.self.rest
