use Rattle.rt_pieces.specs.Numbering.{AreOwnNumbers}
use Rattle.rt_pieces.proofs.numbers.own_numbers.Given as goal

abbrev pub invariant-loop-i : goal.invariant-loop-i
invariant-loop-i l = AreOwnNumbers l.i l.numbers.items
