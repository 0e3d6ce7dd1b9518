use Rattle.std.proofs.Common.{length}
use Rattle.gds_grammar.specs.Format.{element}
use Rattle.gds_stream.specs.Gives.{AddElements}
use Rattle.gds_stream.proofs.Looping.{InRounds}
use Rattle.gds_stream.proofs.reader.Reader.elements.Given as goal

abbrev pub invariant-loop-elements : goal.invariant-loop-elements
invariant-loop-elements l = InRounds element (λ items. AddElements items l.elements) l.fn.self l.self

abbrev pub decreases-loop-elements : goal.decreases-loop-elements
decreases-loop-elements l = length l.self.rest
