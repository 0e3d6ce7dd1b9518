use Rattle.gds_grammar.specs.Format.{property}
use Rattle.gds_stream.proofs.Giving.{ok_then}
use Rattle.gds_stream.proofs.reader.Reader.property.Goals as goal

pub returns : goal.returns
unfolding property
returns c = (_, ok_then _ _ _ _ _ _ c.in_ok-take.ensures.gives.1 c.in_ok-take-2.ensures.gives.1, tt)
