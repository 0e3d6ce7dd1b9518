use Rattle.gds_stream_laws.proofs.Again.{read_back}
use Rattle.gds_stream_laws.proofs.laws.what_is_written_is_read_back.Goals as goal

pub returns : goal.returns
returns c = read_back
