use Rattle.rt_columns.specs.Ranking.{AreSides}
use Rattle.rt_columns.proofs.ranks.all_sides.Given as goal

abbrev pub invariant-loop-number : goal.invariant-loop-number
invariant-loop-number l = AreSides l.number l.lefts l.rights l.sides.items
