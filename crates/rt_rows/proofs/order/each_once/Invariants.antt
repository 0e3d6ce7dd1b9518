use Rattle.rt_rows.proofs.Sorting.{AreKeptSoFar}
use Rattle.rt_rows.proofs.order.each_once.Given as goal

abbrev pub invariant-loop-i : goal.invariant-loop-i
invariant-loop-i l = AreKeptSoFar l.names l.i l.kept
