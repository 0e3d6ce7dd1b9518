use Rattle.rt_columns.specs.Ranking.{AreRanksOf}
use Rattle.rt_columns.proofs.ranks.ranks.Given as goal

abbrev pub invariant-loop-number : goal.invariant-loop-number
invariant-loop-number l = AreRanksOf l.sorted l.number l.numbers l.ranks.items
