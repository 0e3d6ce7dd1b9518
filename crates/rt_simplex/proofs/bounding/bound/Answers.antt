use Rattle.rt_simplex.proofs.Kept.{kept_by_run}
use Rattle.rt_simplex.proofs.bounding.bound.Goals as goal

pub bound_of-requires-clause-feasible : goal.bound_of-requires-clause-feasible
bound_of-requires-clause-feasible c = kept_by_run c.args.table.now c.args.pivots.now c.run_dual.new.table c.run_dual.new.pivots c.requires.feasible c.run_dual.ensures.run

pub returns-in_err-end-clause-feasible : goal.returns-in_err-end-clause-feasible
returns-in_err-end-clause-feasible c = kept_by_run c.args.table.now c.args.pivots.now c.run_dual.new.table c.run_dual.new.pivots c.requires.feasible c.run_dual.ensures.run

pub returns-in_default-clause-feasible : goal.returns-in_default-clause-feasible
returns-in_default-clause-feasible c = kept_by_run c.args.table.now c.args.pivots.now c.run_dual.new.table c.run_dual.new.pivots c.requires.feasible c.run_dual.ensures.run

pub returns-clause-feasible : goal.returns-clause-feasible
returns-clause-feasible c = kept_by_run c.args.table.now c.args.pivots.now c.run_dual.new.table c.run_dual.new.pivots c.requires.feasible c.run_dual.ensures.run
