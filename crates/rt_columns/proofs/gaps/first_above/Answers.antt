use Rattle.std.proofs.Common.{arith}
use Rattle.rt_columns.proofs.Seeing.{first_more}
use Rattle.rt_columns.proofs.gaps.first_above.Goals as goal

pub loop-first-preserved : goal.loop-first-preserved
loop-first-preserved c = record {
  onward = omega (arith, c.loop-first.invariant.onward);
  inside = omega (arith, c.loop-first-test.true);
  before = first_more c.args.over.now c.args.lower c.loop-first.first c.if-not-lies_above.ensures c.loop-first.invariant.before;
}
