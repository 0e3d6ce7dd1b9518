use Rattle.rt_path.specs.Steps.{AreValues}
use Rattle.rt_path.proofs.found.values_of.Given as goal

abbrev pub invariant-loop-i : goal.invariant-loop-i
invariant-loop-i l = AreValues l.now l.from l.i l.values
