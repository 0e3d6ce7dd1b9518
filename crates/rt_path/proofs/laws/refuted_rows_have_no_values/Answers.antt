use Rattle.rt_path.proofs.Callers.{none_meets}
use Rattle.rt_path.proofs.laws.refuted_rows_have_no_values.Goals as goal

pub returns : goal.returns
returns c = none_meets
