use Rattle.rt_cells.proofs.Numbers.{below_or_at}
use Rattle.std.proofs.Common.{inl, inr, subst}
use Rattle.rt_rows.specs.Places.{places}
use Rattle.rt_template.specs.Vertical.{LiesBetween}
use Rattle.rt_vtemplate.proofs.Upwards.{job_strips}
use Rattle.rt_vtemplate.proofs.Blocked.{none_between}
use Rattle.rt_vtemplate.proofs.sight.one_between.Goals as goal

pub returns : goal.returns
returns c =
    none_between c.args.job.now (places c.args.columns.now) c.args.i c.args.j c.requires.of_one_mask (job_strips c.args.job.now c.requires.job) c.args.x.now c.loop-k.k
    c.loop-k-test.false c.loop-k.invariant

pub loop-k-preserved : goal.loop-k-preserved
loop-k-preserved c = λ k h g lies. elim (below_or_at k c.loop-k.k g) [
  | inl l ↦ c.loop-k.invariant k h l lies
  | inr e ↦ c.if-lies_between.ensures (subst (LiesBetween c.args.job.now (places c.args.columns.now) c.args.i c.args.j c.args.x.now) e lies)
]
