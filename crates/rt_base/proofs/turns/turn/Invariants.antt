use Rattle.std.proofs.Common.{◌≡◌}
use Rattle.rt_base.specs.Plane.{turned_by, reflected, AreCoordinates}
use Rattle.rt_base.proofs.turns.turn.Given as goal

abbrev pub invariant-loop-i : goal.invariant-loop-i
invariant-loop-i l = record {
  turned : l.q ≡ turned_by l._i (reflected l.fn.o.reflect l.fn.p);
  small : AreCoordinates l.q;
}
