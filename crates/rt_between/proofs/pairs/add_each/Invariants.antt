use Rattle.rt_between.specs.Pairing.{AreEachAdded}
use Rattle.rt_between.proofs.pairs.add_each.Given as goal

abbrev pub invariant-loop-i : goal.invariant-loop-i
invariant-loop-i l = AreEachAdded l.i l.fn.pairs l.pairs
