use Rattle.std.proofs.Common.{◌≡◌, length, take}
use Rattle.rt_groups.specs.Parents.{PointDown, AreParentsOf}
use Rattle.rt_groups.proofs.joining.join_all.Given as goal

abbrev pub invariant-loop-pair : goal.invariant-loop-pair
invariant-loop-pair l = record {
  counted : length l.parents ≡ length l.initial.parents;
  down : PointDown l.parents;
  parents : AreParentsOf (take l.pair-index l.pairs) l.parents;
}
