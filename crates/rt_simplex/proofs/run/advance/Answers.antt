use Rattle.rt_simplex.proofs.Entering.{negative}
use Rattle.rt_simplex.proofs.run.advance.Goals as goal

pub pivot-requires-clause-place : goal.pivot-requires-clause-place
pivot-requires-clause-place c = negative c.args.table.now c.args.p c.args.q c.requires.dual
