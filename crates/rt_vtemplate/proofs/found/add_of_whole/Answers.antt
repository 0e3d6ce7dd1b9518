use Rattle.rt_vtemplate.proofs.OfKinds.{whole_added}
use Rattle.rt_vtemplate.proofs.found.add_of_whole.Goals as goal

pub returns : goal.returns
returns c = whole_added _ _ _ c.in_ok-push.ensures.ok c.in_ok-push-2.ensures.ok
