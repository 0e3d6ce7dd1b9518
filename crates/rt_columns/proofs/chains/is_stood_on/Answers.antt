use Rattle.std.proofs.Common.{map, arith}
use Rattle.rt_strips.specs.Placed.{placed}
use Rattle.rt_columns.proofs.Climbing.{none_stands_on}
use Rattle.rt_columns.proofs.chains.is_stood_on.Goals as goal

pub returns-else-not-ends_below : goal.returns-else-not-ends_below
returns-else-not-ends_below c =
    none_stands_on (map placed c.args.strips.now.list) c.args.over.now c.requires.bars c.args.place c.loop-above.above c.requires.place
    c.loop-above.invariant.none (λ h. c.if-not-ends_below.ensures)

pub returns-after-loop-above : goal.returns-after-loop-above
returns-after-loop-above c =
    none_stands_on (map placed c.args.strips.now.list) c.args.over.now c.requires.bars c.args.place c.loop-above.above c.requires.place
    c.loop-above.invariant.none (λ h. absurd (omega (arith, c.loop-above-test.false)))
