use Rattle.std.proofs.Common.{arith, inl, inr}
use Rattle.std.proofs.lemmas.Int.{ints}
use Rattle.rt_drc.proofs.enclosures.cell_before.Goals as goal

pub returns-then-at-number : goal.returns-then-at-number
returns-then-at-number c = record {
  inside = record {
    column = record { from = omega (arith, ints); to = omega (arith, ints) };
    row = record { from = omega (arith, ints); to = omega (arith, ints) };
  };
  outside = inl (inl (omega (arith, ints)));
}

pub returns-then-at-number-2 : goal.returns-then-at-number-2
returns-then-at-number-2 c = record {
  inside = record {
    column = record { from = omega (arith, ints); to = omega (arith, ints) };
    row = record { from = omega (arith, ints); to = omega (arith, ints) };
  };
  outside = inr (inl (omega (arith, ints)));
}
