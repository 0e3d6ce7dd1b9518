use Rattle.rt_tableau.proofs.AddedLines.{AreAddedSoFar}
use Rattle.rt_tableau.proofs.added.added_line.Given as goal

abbrev pub invariant-loop-s : goal.invariant-loop-s
invariant-loop-s l = AreAddedSoFar l.rest l.over l.times l.right l.own l.numbers l.s
