use Rattle.rt_htemplate.specs.Wanted.{IsOfDistance}
use Rattle.rt_between.proofs.Growing.{more_rules}
use Rattle.rt_htemplate.proofs.distances.add_of_distances.Goals as goal

pub loop-q-preserved : goal.loop-q-preserved
loop-q-preserved c = more_rules (IsOfDistance c.args.job.now) c.loop-q.q c.args.names.now c.loop-q.names _ c.loop-q.invariant c.in_ok-add_of_distance.ensures
