use Rattle.std.proofs.Common.{refl, inl, arith}
use Rattle.std.proofs.lemmas.Int.{ints}
use Rattle.rt_cover.proofs.across.note.Goals as goal

pub returns : goal.returns
returns c =
    inl (record {
      there = omega arith;
      short = omega (arith, ints);
      cell = c.bare_cell.result;
      in_column = c.bare_cell.ensures.column;
      in_row = c.bare_cell.ensures.row;
      after_is = refl;
    })
