use Rattle.rt_vtemplate.specs.Added.{AreAdded, IsOfFirst}
use Rattle.rt_vtemplate.specs.Kinds.{IsOfStrip}
use Rattle.rt_vtemplate.proofs.found.add_of_strips.Given as goal

abbrev pub invariant-loop-i : goal.invariant-loop-i
invariant-loop-i l = AreAdded (IsOfFirst IsOfStrip l.i) l.initial.names l.names
