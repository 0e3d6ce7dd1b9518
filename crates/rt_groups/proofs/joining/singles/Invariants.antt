use Rattle.rt_groups.specs.Parents.{AreSingle}
use Rattle.rt_groups.proofs.joining.singles.Given as goal

abbrev pub invariant-loop-i : goal.invariant-loop-i
invariant-loop-i l = AreSingle l.i l.parents.items
