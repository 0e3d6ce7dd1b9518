use Rattle.gds_records.proofs.Magnitudes.{one_value}
use Rattle.gds_records.proofs.laws.one_value.Goals as goal

pub returns : goal.returns
returns c = one_value
