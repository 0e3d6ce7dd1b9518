use Rattle.std.proofs.Common.{length, ap, arith}
use Rattle.rt_rows.specs.Places.{places}
use Rattle.rt_vtemplate.specs.Whole.{StandsThere}
use Rattle.rt_vtemplate.proofs.Upwards.{job_strips}
use Rattle.rt_vtemplate.proofs.Chained.{is_highest, range_more}
use Rattle.rt_vtemplate.proofs.chains.is_highest.Goals as goal

pub returns : goal.returns
returns c =
    is_highest c.args.job.now (places c.args.columns.now) c.args.span.now.x c.args.span.now.u (job_strips c.args.job.now c.requires.job) c.args.j c.loop-k.k
    (omega (arith, ap length c.as_slice.ensures)) c.loop-k.invariant

pub loop-k-preserved : goal.loop-k-preserved
loop-k-preserved c =
    range_more (λ k. ¬ StandsThere c.args.job.now (places c.args.columns.now) c.args.span.now.x c.args.span.now.u c.args.j k k) c.args.j c.loop-k.k
    c.loop-k.invariant c.if-stands_there.ensures
