use Rattle.gds_stream.proofs.Telling.{one_library}
use Rattle.gds_stream.proofs.laws.one_library.Goals as goal

pub returns : goal.returns
returns c = one_library
