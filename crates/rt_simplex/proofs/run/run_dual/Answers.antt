use Rattle.std.proofs.lemmas.Result.{err_from_is_err_and}
use Rattle.rt_simplex.specs.Runs.IsRun.{none}
use Rattle.rt_simplex.proofs.Turns.{run_further, within_further, spent_below}
use Rattle.rt_simplex.proofs.run.run_dual.Goals as goal

pub loop-alloc-init : goal.loop-alloc-init
loop-alloc-init c = (none, c.requires)

pub loop-alloc-preserved : goal.loop-alloc-preserved
loop-alloc-preserved c = (
  run_further c.args.table.now c.loop-alloc.table c.advance.new.table c.args.pivots.now c.loop-alloc.pivots c.advance.new.pivots c.in-Pivot.p c.in-Pivot.q c.loop-alloc.invariant.0 c.in-Pivot.ensures
      c.in_ok-advance-in-Pivot.ensures.exchanged c.in_ok-advance-in-Pivot.ensures.small c.in_ok-advance-in-Pivot.ensures.counted,
  within_further c.loop-alloc.pivots c.count.result c.args.limit c.advance.new.pivots c.count.ensures c.loop-alloc-test.true c.in_ok-advance-in-Pivot.ensures.counted,
)

pub returns-in_err-advance-in-Pivot-clause-stopped : goal.returns-in_err-advance-in-Pivot-clause-stopped
returns-in_err-advance-in-Pivot-clause-stopped c =
    let p = err_from_is_err_and c.from_residual.result c.from_residual.ensures.1 in
    let below = spent_below c.loop-alloc.pivots c.count.result c.args.limit c.count.ensures c.loop-alloc-test.true in
    rw (p.1, p.2) (c.in_err-advance-in-Pivot.ensures.stopped c.args.limit below)
