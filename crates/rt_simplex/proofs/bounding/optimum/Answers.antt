use Rattle.std.proofs.Common.{sym, subst}
use Rattle.rt_tableau.proofs.Combined.{wide_read}
use Rattle.rt_simplex.specs.Bounds.{IsOptimumBound}
use Rattle.rt_simplex.proofs.Shown.{optimum_shown}
use Rattle.rt_simplex.proofs.bounding.optimum.Goals as goal

pub returns : goal.returns
returns c =
    subst (IsOptimumBound c.args.table.now c.in_ok-at.at c.in_ok-shares.shares) (sym (wide_read c.goal_times-over.result c.from.result c.goal_times-over.ensures.small c.from.ensures))
    (optimum_shown c.args.table.now c.goal_row-row.result c.in_ok-at.at c.in_ok-shares.shares c.goal_times-over.result c.requires.feasible c.requires.ended c.look.ensures c.goal_row-row.ensures c.goal_times-over.ensures.is
    c.in_ok-shares.ensures c.in_ok-at.ensures)
