use Rattle.std.proofs.Common.{length, ap, arith, below_more}
use Rattle.rt_rows.specs.Places.{places}
use Rattle.rt_vtemplate.proofs.Wholes.{none_whole, one_whole}
use Rattle.rt_vtemplate.proofs.chains.is_whole_chain.Goals as goal

pub returns-then-is_whole_beside : goal.returns-then-is_whole_beside
returns-then-is_whole_beside c =
    one_whole c.args.job.now (places c.args.columns.now) c.loop-k.k c.args.i c.args.j c.requires.is_drawn c.if-is_whole_beside.ensures

pub loop-k-preserved : goal.loop-k-preserved
loop-k-preserved c = below_more _ _ c.loop-k.invariant c.if-is_whole_beside.ensures

pub returns : goal.returns
returns c =
    none_whole c.args.job.now (places c.args.columns.now) c.args.i c.args.j
    (λ k h. c.loop-k.invariant k (omega (arith, h, ap length c.as_slice.ensures)))
