use Rattle.std.proofs.Common.{map, arith}
use Rattle.rt_strips.specs.Placed.{placed}
use Rattle.rt_columns.proofs.Climbing.{stands_on_none}
use Rattle.rt_columns.proofs.chains.stands.Goals as goal

pub returns : goal.returns
returns c =
    stands_on_none (map placed c.args.strips.now.list) c.args.over.now c.requires.bars c.args.from c.args.place c.requires.passed c.requires.place
    (λ r h g. c.loop-below.invariant r h (omega arith))
