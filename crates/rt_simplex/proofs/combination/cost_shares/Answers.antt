use Rattle.std.proofs.Common.{sym, subst}
use Rattle.rt_simplex.specs.Choices.{costs_by, goal_of}
use Rattle.rt_simplex.specs.Shares.{AreTakenByCosts}
use Rattle.rt_simplex.proofs.TakenRows.{none_taken}
use Rattle.rt_simplex.proofs.Gathered.{cost_taken, costs_at_last}
use Rattle.rt_simplex.proofs.combination.cost_shares.Goals as goal

pub loop-d-init : goal.loop-d-init
loop-d-init c =
    subst (AreTakenByCosts c.args.table.now c.args.row.now 0) (sym c.new-shares.ensures)
    (record { each = λ table whole. none_taken c.args.table.now.system (costs_by (goal_of c.args.table.now) c.args.row.now table) })

pub loop-d-preserved : goal.loop-d-preserved
loop-d-preserved c =
    cost_taken c.args.table.now c.args.row.now c.columns.result c.rows.result c.rows-d-end.result c.loop-d.d c.cost.result c.loop-d.shares c.take.new.shares c.requires.feasible c.requires.row c.columns.ensures c.rows.ensures
    c.rows-d-end.ensures c.loop-d-test.true c.cost.ensures.is c.cost.ensures.small c.loop-d.invariant c.in_ok-take.ensures

pub returns : goal.returns
returns c = costs_at_last c.args.table.now c.args.row.now c.loop-d.shares c.loop-d.d c.rows-d-end.result c.loop-d.invariant c.rows-d-end.ensures c.loop-d.auto.d-end c.loop-d-test.false
