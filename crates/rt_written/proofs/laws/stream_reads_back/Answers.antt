use Rattle.rt_written.proofs.ReadBack.{stream_reads_back}
use Rattle.rt_written.proofs.laws.stream_reads_back.Goals as goal

pub returns : goal.returns
returns c = stream_reads_back
