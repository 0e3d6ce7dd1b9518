use Rattle.std.proofs.Common.{below_more}
use Rattle.rt_rows.specs.Places.{places}
use Rattle.rt_vtemplate.proofs.Upwards.{job_strips}
use Rattle.rt_vtemplate.proofs.Chained.{is_lowest}
use Rattle.rt_vtemplate.proofs.chains.is_lowest.Goals as goal

pub returns : goal.returns
returns c =
    is_lowest c.args.job.now (places c.args.columns.now) c.args.span.now.x c.args.span.now.u (job_strips c.args.job.now c.requires.job) c.args.i c.loop-k.k
    c.loop-k-test.false c.loop-k.invariant

pub loop-k-preserved : goal.loop-k-preserved
loop-k-preserved c = below_more _ _ c.loop-k.invariant c.if-stands_there.ensures
