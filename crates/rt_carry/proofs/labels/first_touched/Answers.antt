use Rattle.std.proofs.Common.{arith}
use Rattle.rt_carry.proofs.Touched.{touches_at, none_more, some_touched}
use Rattle.rt_carry.proofs.labels.first_touched.Goals as goal

pub loop-i-init : goal.loop-i-init
loop-i-init c = λ k h. absurd (omega arith)

pub loop-i-preserved : goal.loop-i-preserved
loop-i-preserved c =
    none_more c.args.strips.now c.args.label.now c.loop-i.i c.index-strips-i.result c.loop-i-test.true c.index-strips-i.is c.if-touches.ensures c.loop-i.invariant

pub returns-then-touches : goal.returns-then-touches
returns-then-touches c = record {
  touches = touches_at c.args.strips.now c.args.label.now c.loop-i.i c.index-strips-i.result c.loop-i-test.true c.index-strips-i.is c.if-touches.ensures;
  first = c.loop-i.invariant;
}

pub returns : goal.returns
returns c = absurd (some_touched c.args.strips.now c.args.label.now c.loop-i.i c.requires (omega arith) c.loop-i.invariant)
