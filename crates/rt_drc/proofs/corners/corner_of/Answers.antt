use Rattle.std.proofs.Common.{refl, inl, inr, arith}
use Rattle.std.proofs.lemmas.Int.{ints}
use Rattle.rt_drc.proofs.corners.corner_of.Goals as goal

pub returns-then-lower-upper : goal.returns-then-lower-upper
returns-then-lower-upper c = inl (record {
  meet = omega (arith, ints);
  shown = record {
    p_column = omega (arith, ints);
    p_row = omega (arith, ints);
    q_column = omega (arith, ints);
    q_row = omega (arith, ints);
    number_found = refl;
  };
})

pub returns-then-upper-lower : goal.returns-then-upper-lower
returns-then-upper-lower c = inr (record {
  meet = omega (arith, ints);
  shown = record {
    p_column = omega (arith, ints);
    p_row = omega (arith, ints);
    q_column = omega (arith, ints);
    q_row = omega (arith, ints);
    number_found = refl;
  };
})
