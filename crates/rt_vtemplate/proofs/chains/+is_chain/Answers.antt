use Rattle.rt_rows.specs.Places.{places}
use Rattle.rt_template.specs.Vertical.{IsChain}
use Rattle.rt_vtemplate.specs.Whole.{StandsThere}
use Rattle.rt_vtemplate.proofs.Upwards.{job_strips}
use Rattle.rt_vtemplate.proofs.Chained.{last_covers, chain_of_one, chain_longer, no_chain, range_more}
use Rattle.rt_vtemplate.proofs.chains.+is_chain.Goals as goal
use Rattle.rt_vtemplate.proofs.chains.+is_chain.Goals.{then-stands_there+else-is_chain, else-stands_there}

pub returns-then-not-covers_both : goal.returns-then-not-covers_both
returns-then-not-covers_both t c = λ chain.
    c.if-not-covers_both.ensures (last_covers c.args.job.now (places c.args.columns.now) c.args.span.now.x c.args.span.now.u c.args.i c.args.j chain)

pub returns-then-i-j : goal.returns-then-i-j
returns-then-i-j t c =
    chain_of_one c.args.job.now (places c.args.columns.now) c.args.span.now.x c.args.span.now.u c.args.i c.args.j c.if-i-j.true c.if-not-covers_both.ensures

pub returns-then-is_chain : goal.returns-then-is_chain
returns-then-is_chain t c =
    chain_longer c.args.job.now (places c.args.columns.now) c.args.span.now.x c.args.span.now.u c.args.i c.loop-k.k c.args.j
    c.if-is_chain.ensures c.if-stands_there.ensures c.if-not-covers_both.ensures

pub loop-k-preserved : goal.loop-k-preserved
loop-k-preserved t c =
    range_more
    (λ k. StandsThere c.args.job.now (places c.args.columns.now) c.args.span.now.x c.args.span.now.u k c.args.j k
    → ¬ IsChain c.args.job.now (places c.args.columns.now) c.args.span.now.x c.args.span.now.u c.args.i k)
    c.args.i c.loop-k.k c.loop-k.invariant
    (elim c.if-stands_there.branch [
      | then-stands_there+else-is_chain w ↦ λ s. w.if-is_chain.ensures
      | else-stands_there w ↦ λ s. absurd (w.if-stands_there.ensures s)
    ])

pub returns : goal.returns
returns t c =
    no_chain c.args.job.now (places c.args.columns.now) c.args.span.now.x c.args.span.now.u (job_strips c.args.job.now c.requires.job) c.args.i c.args.j c.loop-k.k
    c.loop-k-test.false c.if-i-j.false c.loop-k.invariant
