use Rattle.rt_branch.specs.Ends.{HasRows}
use Rattle.rt_branch.proofs.point.rows_of.Given as goal

abbrev pub invariant-loop-i : goal.invariant-loop-i
invariant-loop-i l = HasRows l.table l.i l.rows.items
