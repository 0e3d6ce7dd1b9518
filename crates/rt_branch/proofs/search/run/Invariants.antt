use Rattle.rt_branch.specs.Going.{now, IsOpen, work_left}
use Rattle.rt_branch.proofs.search.run.Given as goal

abbrev pub ghost-step : goal.ghost-step
ghost-step g a = now g.standing a.pivots.now

abbrev pub invariant-loop-more : goal.invariant-loop-more
invariant-loop-more g l = IsOpen (now g.standing l.pivots) l.path l.table

abbrev pub decreases-loop-more : goal.decreases-loop-more
decreases-loop-more g l = work_left l.limit l.pivots l.path
