use Rattle.rt_strips.specs.Table.{IsRowTaken}
use Rattle.rt_strips.proofs.climbing.take_row.Given as goal

abbrev pub invariant-loop-k : goal.invariant-loop-k
invariant-loop-k l = IsRowTaken l.from l.to l.k l.initial.words l.words
