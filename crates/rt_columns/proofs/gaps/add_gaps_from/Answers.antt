use Rattle.std.proofs.Common.{map}
use Rattle.rt_strips.specs.Placed.{placed}
use Rattle.rt_columns.proofs.Seeing.{none_above}
use Rattle.rt_columns.proofs.gaps.add_gaps_from.Goals as goal

pub returns-else-first-over : goal.returns-else-first-over
returns-else-first-over c =
    none_above (map placed c.args.strips.now.list) c.args.over.now c.requires.bars c.args.lower c.first_above-first.result c.requires.place
    c.first_above-first.ensures c.if-first-over.false c.args.names.now
