use Rattle.rt_written.proofs.ReadBack.{written_reads_back}
use Rattle.rt_written.proofs.laws.written_reads_back.Goals as goal

pub returns : goal.returns
returns c = written_reads_back
