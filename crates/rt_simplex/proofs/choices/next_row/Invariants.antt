use Rattle.std.specs.Option.{MatchOption}
use Rattle.rt_simplex.specs.Choices.{HasNoRow, IsFirstRow}
use Rattle.rt_simplex.proofs.choices.next_row.Given as goal

abbrev pub invariant-loop-i : goal.invariant-loop-i
invariant-loop-i l = MatchOption l.found (HasNoRow l.table l.i) (IsFirstRow l.table l.i)
