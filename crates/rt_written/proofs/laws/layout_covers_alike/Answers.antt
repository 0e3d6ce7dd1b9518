use Rattle.rt_written.proofs.ReadBack.{layout_covers_alike}
use Rattle.rt_written.proofs.laws.layout_covers_alike.Goals as goal

pub returns : goal.returns
returns c = layout_covers_alike
