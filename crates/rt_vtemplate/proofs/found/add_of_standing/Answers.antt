use Rattle.std.proofs.Common.{map}
use Rattle.rt_strips.specs.Placed.{placed}
use Rattle.rt_vtemplate.proofs.OfKinds.{standing_added}
use Rattle.rt_vtemplate.proofs.found.add_of_standing.Goals as goal

pub returns-in_ok-push-2 : goal.returns-in_ok-push-2
returns-in_ok-push-2 c = standing_added (map placed c.args.strips.now.list) c.args.below c.args.above _ _ _ c.if-touching.ensures c.in_ok-push.ensures.ok c.in_ok-push-2.ensures.ok
