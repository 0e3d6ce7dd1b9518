use Rattle.rt_layout.proofs.Reading.{none_more, none_of_all}
use Rattle.rt_layout.proofs.layout.covered.Goals as goal

pub loop-rectangle-preserved : goal.loop-rectangle-preserved
loop-rectangle-preserved c = none_more _ c.loop-rectangle.rectangle-index c.rectangle-item.result _ _ c.loop-rectangle-test.true c.rectangle-item.is c.loop-rectangle.invariant c.if-holds.ensures

pub returns : goal.returns
returns c = none_of_all _ c.loop-rectangle.rectangle-index _ _ c.loop-rectangle-test.false c.loop-rectangle.invariant
