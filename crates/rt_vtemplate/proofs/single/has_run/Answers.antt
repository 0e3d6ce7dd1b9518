use Rattle.rt_rows.specs.Places.{places}
use Rattle.rt_vtemplate.proofs.Told.{chain_strips}
use Rattle.rt_vtemplate.proofs.single.has_run.Goals as goal

pub returns-then-not-are_both_strips : goal.returns-then-not-are_both_strips
returns-then-not-are_both_strips c = λ w. c.if-not-are_both_strips.ensures (chain_strips c.args.job.now (places c.args.columns.now) c.args.i c.args.j w)
