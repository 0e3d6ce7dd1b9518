use Rattle.gds_grammar.specs.Format.{head}
use Rattle.gds_stream.proofs.Giving.{ok_then}
use Rattle.gds_stream.proofs.reader.Reader.head.Goals as goal

pub returns-clause-gives : goal.returns-clause-gives
unfolding head
returns-clause-gives c = (_, ok_then _ _ _ _ _ _ c.in_ok-maybe.ensures.gives.1 c.in_ok-maybe-2.ensures.gives.1, tt)
