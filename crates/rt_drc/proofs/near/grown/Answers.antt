use Rattle.std.proofs.Common.{arith}
use Rattle.std.proofs.lemmas.Int.{ints, clamps}
use Rattle.rt_drc.proofs.near.grown.Goals as goal

pub invariant_of-result : goal.invariant_of-result
invariant_of-result c = record {
  across = omega (arith, ints, clamps);
  upwards = omega (arith, ints, clamps);
  from_left = omega (arith, ints);
  to_right = omega (arith, ints, clamps);
  from_bottom = omega (arith, ints);
  to_top = omega (arith, ints, clamps);
}
