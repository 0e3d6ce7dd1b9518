use Rattle.std.proofs.Common.{arith}
use Rattle.std.proofs.lemmas.Int.{ints}
use Rattle.rt_cells.proofs.Rectangles.{same_sides}
use Rattle.rt_drc.proofs.enclosures.grown_around.Goals as goal

pub invariant_of-result : goal.invariant_of-result
invariant_of-result c = record {
  across = omega (arith, ints);
  upwards = omega (arith, ints);
  from_left = omega (arith, ints);
  to_right = omega (arith, ints);
  from_bottom = omega (arith, ints);
  to_top = omega (arith, ints);
}

pub returns : goal.returns
returns c = same_sides _ _ (omega (arith, ints)) (omega (arith, ints)) (omega (arith, ints)) (omega (arith, ints))
