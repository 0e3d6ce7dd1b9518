use Rattle.rt_groups.specs.Parents.{AreAsBefore, AreFlat}
use Rattle.rt_groups.proofs.joining.flatten.Given as goal

abbrev pub invariant-loop-i : goal.invariant-loop-i
invariant-loop-i l = record {
  as_before : AreAsBefore l.initial.parents l.parents;
  flat : AreFlat l.i l.parents;
}
