use Rattle.gds_grammar.proofs.StreamOrStop.{hold_or_stop}
use Rattle.gds_grammar.proofs.laws.bytes_hold_a_stream_or_stop.Goals as goal

pub returns : goal.returns
returns c = hold_or_stop
