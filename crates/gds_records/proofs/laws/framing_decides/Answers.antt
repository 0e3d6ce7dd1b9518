use Rattle.gds_records.proofs.Deciding.{begin_with_one}
use Rattle.gds_records.proofs.laws.framing_decides.Goals as goal

pub returns : goal.returns
returns c = begin_with_one
