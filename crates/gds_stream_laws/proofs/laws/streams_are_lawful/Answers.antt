use Rattle.gds_stream_laws.proofs.LawfulValues.{stream_is_lawful}
use Rattle.gds_stream_laws.proofs.laws.streams_are_lawful.Goals as goal

pub returns : goal.returns
returns c = stream_is_lawful
