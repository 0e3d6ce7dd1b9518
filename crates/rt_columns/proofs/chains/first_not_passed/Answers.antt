use Rattle.rt_columns.proofs.Climbing.{one_passed}
use Rattle.rt_columns.proofs.chains.first_not_passed.Goals as goal

pub loop-first-preserved : goal.loop-first-preserved
loop-first-preserved c =
    one_passed c.args.over.now c.requires.bars c.loop-first.first c.args.place c.loop-first.invariant c.loop-first-test.true c.requires.place c.if-ends_below.ensures
