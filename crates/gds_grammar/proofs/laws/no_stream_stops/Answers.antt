use Rattle.gds_grammar.proofs.Unique.{no_stream_stops}
use Rattle.gds_grammar.proofs.laws.no_stream_stops.Goals as goal

pub returns : goal.returns
returns c = no_stream_stops
