use Rattle.rt_view.specs.Job.{strips_of}
use Rattle.rt_vtemplate.proofs.OfKinds.{clear_added, clear_none}
use Rattle.rt_vtemplate.proofs.clear.add_of_clear.Goals as goal

pub returns-in_ok-push : goal.returns-in_ok-push
returns-in_ok-push c = clear_added (strips_of c.args.job.now) c.args.i c.args.j _ _ c.if-is_clear_above.ensures c.in_ok-push.ensures.ok

pub returns-else-is_clear_above : goal.returns-else-is_clear_above
returns-else-is_clear_above c = clear_none (strips_of c.args.job.now) c.args.i c.args.j _ c.if-is_clear_above.ensures
