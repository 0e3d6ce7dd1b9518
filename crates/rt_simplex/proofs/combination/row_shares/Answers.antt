use Rattle.std.proofs.Common.{sym, subst}
use Rattle.rt_simplex.specs.Shares.{AreTakenByRow}
use Rattle.rt_simplex.proofs.TakenRows.{none_taken}
use Rattle.rt_simplex.proofs.Gathered.{entry_taken, entries_at_last}
use Rattle.rt_simplex.proofs.combination.row_shares.Goals as goal

pub loop-d-init : goal.loop-d-init
loop-d-init c = subst (AreTakenByRow c.args.table.now c.args.p 0) (sym c.new-shares.ensures) (record { each = λ table whole. none_taken c.args.table.now.system (table c.args.p) })

pub loop-d-preserved : goal.loop-d-preserved
loop-d-preserved c =
    entry_taken c.args.table.now c.args.p c.columns.result c.rows.result c.rows-d-end.result c.loop-d.d c.whole.result c.loop-d.shares c.take.new.shares c.requires c.columns.ensures c.rows.ensures c.rows-d-end.ensures
    c.loop-d-test.true c.whole.ensures.entry c.whole.ensures.small c.loop-d.invariant c.in_ok-take.ensures

pub returns : goal.returns
returns c = entries_at_last c.args.table.now c.args.p c.loop-d.shares c.loop-d.d c.rows-d-end.result c.loop-d.invariant c.rows-d-end.ensures c.loop-d.auto.d-end c.loop-d-test.false
