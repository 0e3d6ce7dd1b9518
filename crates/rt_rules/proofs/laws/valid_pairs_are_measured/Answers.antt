use Rattle.rt_rules.proofs.Measured.{pairs_measured}
use Rattle.rt_rules.proofs.laws.valid_pairs_are_measured.Goals as goal

pub returns : goal.returns
returns c = pairs_measured
