use Rattle.rt_between.proofs.Growing.{more_rules}
use Rattle.rt_vtemplate.specs.Between.{IsOfEnclosure}
use Rattle.rt_vtemplate.proofs.between.add_of_enclosures.Goals as goal

pub loop-q-preserved : goal.loop-q-preserved
loop-q-preserved c = more_rules (IsOfEnclosure c.args.job.now) c.loop-q.q c.args.names.now c.loop-q.names _ c.loop-q.invariant c.in_ok-add_of_enclosure.ensures
