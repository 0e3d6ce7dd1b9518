use Rattle.rt_drc.proofs.Wide.{shared_fits, shared_shown}
use Rattle.rt_drc.proofs.width.shared_part.Goals as goal

pub overflow_sub-result-2 : goal.overflow_sub-result-2
overflow_sub-result-2 c = shared_fits c.args.below.now c.args.above.now c.max-low.result c.min-high.result c.max-low.ensures.value c.min-high.ensures.value

pub returns : goal.returns
returns c = shared_shown c.args.below.now c.args.above.now c.max-low.result c.min-high.result c.max-low.ensures.value c.min-high.ensures.value
