use Rattle.std.proofs.Common.{sym, subst}
use Rattle.rt_tableau.proofs.Combined.{wide_read}
use Rattle.rt_simplex.specs.Bounds.{IsRayBound}
use Rattle.rt_simplex.proofs.Shown.{ray_shown}
use Rattle.rt_simplex.proofs.Gathered.{over_positive}
use Rattle.rt_simplex.proofs.bounding.ray.Goals as goal

pub returns : goal.returns
returns c =
    subst (IsRayBound c.args.table.now c.in_ok-shares.shares) (sym (wide_read c.whole-over.result c.from.result c.whole-over.ensures.small c.from.ensures))
    (ray_shown c.args.table.now c.args.row c.in_ok-shares.shares c.whole-over.result c.requires.feasible c.requires.ended
    (over_positive c.args.table.now c.args.row c.basic.result c.whole-over.result c.requires.ended.leaving.there c.basic.ensures c.whole-over.ensures.entry) c.in_ok-shares.ensures)
