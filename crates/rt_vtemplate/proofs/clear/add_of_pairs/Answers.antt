use Rattle.rt_view.specs.Job.{strips_of}
use Rattle.rt_vtemplate.proofs.Pairs.{pair_more}
use Rattle.rt_vtemplate.proofs.clear.add_of_pairs.Goals as goal

pub loop-pair-preserved : goal.loop-pair-preserved
loop-pair-preserved c = pair_more (strips_of c.args.job.now) c.args.pairs.now c.loop-pair.pair-index _ _ _ _ c.loop-pair-test.true c.loop-pair.invariant c.in_ok-add_of_pair.ensures
