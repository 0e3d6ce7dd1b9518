use Rattle.std.proofs.Common.{arith, refl, inl, inr}
use Rattle.std.proofs.lemmas.Int.{ints}
use Rattle.rt_drc.proofs.sizes.odd_strip.Goals as goal

pub returns-then-columns-size : goal.returns-then-columns-size
returns-then-columns-size c =
    let e = c.corners.ensures in
    record {
      on_mask = search;
      extent = inl (omega (arith, ints, e.number_found));
      another = λ same. omega (arith, ints, same, e.number_found);
      shown = record { p_column = e.p_column; p_row = e.p_row; q_column = e.q_column; q_row = e.q_row; number_found = refl };
    }

pub returns-then-rows-size : goal.returns-then-rows-size
returns-then-rows-size c =
    let e = c.corners-then-rows-size.ensures in
    record {
      on_mask = search;
      extent = inr (omega (arith, ints, e.number_found));
      another = λ same. omega (arith, ints, same, e.number_found);
      shown = record { p_column = e.p_column; p_row = e.p_row; q_column = e.q_column; q_row = e.q_row; number_found = refl };
    }
