use Rattle.rt_path.proofs.Callers.{bounded_below}
use Rattle.rt_path.proofs.laws.bounded_rows_are_above.Goals as goal

pub returns : goal.returns
returns c = bounded_below
