use Rattle.rt_groups.proofs.Kin.{halving}
use Rattle.rt_groups.proofs.joining.halve.Goals as goal

pub returns-clause-as_before : goal.returns-clause-as_before
returns-clause-as_before c = halving c.args.parents.now c.args.i c.requires.there c.requires.down
