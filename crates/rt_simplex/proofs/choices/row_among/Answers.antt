use Rattle.std.proofs.Common.{subst, arith}
use Rattle.std.proofs.lemmas.Int.{ints}
use Rattle.std.specs.Option.{MatchOption}
use Rattle.rt_simplex.specs.Choices.{HasNoRow, IsFirstRow}
use Rattle.rt_simplex.proofs.Chosen.{row_passed_as_read, row_begun}
use Rattle.rt_simplex.proofs.choices.row_among.Goals as goal

pub returns-then-whole-ge0 : goal.returns-then-whole-ge0
returns-then-whole-ge0 c =
    row_passed_as_read c.args.table.now c.args.i c.whole.result c.columns-right.result c.args.found c.requires.there c.columns-right.ensures c.whole.ensures.entry c.whole.ensures.small (grind (arith, ints, c.if-whole-ge0.true)) c.requires.so

pub returns-in-None : goal.returns-in-None
returns-in-None c =
    row_begun c.args.table.now c.args.i c.whole.result c.columns-right.result c.columns-right.ensures c.whole.ensures.entry c.whole.ensures.small (grind (arith, ints, c.if-whole-ge0.false))
    (subst (λ o. MatchOption o (HasNoRow c.args.table.now c.args.i) (IsFirstRow c.args.table.now c.args.i)) c.in-None.is c.requires.so)
