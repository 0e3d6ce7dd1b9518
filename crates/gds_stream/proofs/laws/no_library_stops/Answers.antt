use Rattle.gds_stream.proofs.Telling.{nowhere}
use Rattle.gds_stream.proofs.laws.no_library_stops.Goals as goal

pub returns : goal.returns
returns c = nowhere
