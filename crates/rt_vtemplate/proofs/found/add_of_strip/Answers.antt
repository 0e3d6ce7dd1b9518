use Rattle.rt_vtemplate.proofs.OfKinds.{strip_added}
use Rattle.rt_vtemplate.proofs.found.add_of_strip.Goals as goal

pub returns : goal.returns
returns c = strip_added c.args.i _ _ _ _ c.in_ok-push.ensures.ok c.in_ok-push-2.ensures.ok c.in_ok-push-3.ensures.ok
