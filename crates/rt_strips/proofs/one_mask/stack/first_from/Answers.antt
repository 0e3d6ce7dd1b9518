use Rattle.std.proofs.Common.{arith}
use Rattle.std.proofs.lemmas.Int.{ints}
use Rattle.rt_strips.proofs.Goings.{one_more_before}
use Rattle.rt_strips.proofs.one_mask.stack.first_from.Goals as goal

pub loop-number-preserved : goal.loop-number-preserved
loop-number-preserved c = record {
  onward = omega (arith, c.loop-number.invariant.onward);
  inside = omega arith;
  before = one_more_before c.args.going.now c.args.from c.loop-number.number _ c.index-going-number.result c.loop-number-test.true
      (omega (arith, ints)) c.loop-number.invariant.before;
}
