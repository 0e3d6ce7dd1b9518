use Rattle.std.proofs.Common.{sym, subst}
use Rattle.rt_place.specs.Placing.{ArePositionsOf}
use Rattle.rt_place.proofs.Placed.{joined_placed}
use Rattle.rt_place.proofs.placing.place.Goals as goal

pub returns-clause-placed : goal.returns-clause-placed
returns-clause-placed c =
    subst (ArePositionsOf c.args.job.now) (sym c.joined.ensures) (joined_placed c.args.job.now c.in_ok-columns.columns c.in_ok-heights.heights c.in_ok-columns.ensures.placed c.in_ok-heights.ensures.placed)
