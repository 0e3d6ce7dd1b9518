use Rattle.gds_grammar.proofs.Unique.{one_stream}
use Rattle.gds_grammar.proofs.laws.one_stream.Goals as goal

pub returns : goal.returns
returns c = one_stream
