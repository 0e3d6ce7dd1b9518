use Rattle.rt_simplex.specs.Among.{IsColumnAmong}
use Rattle.rt_simplex.proofs.choices.next_column.Given as goal

abbrev pub invariant-loop-j : goal.invariant-loop-j
invariant-loop-j l = IsColumnAmong l.table l.p l.row l.j l.found
