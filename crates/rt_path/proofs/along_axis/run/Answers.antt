use Rattle.std.proofs.Common.{◌+◌, length}
use Rattle.rt_path.proofs.Turns.{fits_with}
use Rattle.rt_path.proofs.along_axis.run.Goals as goal

pub raise_until_met-requires-clause-fit : goal.raise_until_met-requires-clause-fit
raise_until_met-requires-clause-fit c =
    fits_with (2 + c.args.count + c.args.count) (length c.args.now.now) c.args.steps.now c.requires.places c.requires.fit
