use Rattle.rt_view.specs.Job.{strips_of}
use Rattle.rt_vtemplate.proofs.OfKinds.{pair_added}
use Rattle.rt_vtemplate.proofs.clear.add_of_pair.Goals as goal

pub returns : goal.returns
returns c = pair_added (strips_of c.args.job.now) c.args.i c.args.j _ _ _ c.in_ok-add_of_clear.ensures c.in_ok-add_of_clear-2.ensures
