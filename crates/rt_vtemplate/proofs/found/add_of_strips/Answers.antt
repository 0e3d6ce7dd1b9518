use Rattle.rt_vtemplate.specs.Kinds.{IsOfStrip}
use Rattle.rt_vtemplate.proofs.Added.{added_more}
use Rattle.rt_vtemplate.proofs.found.add_of_strips.Goals as goal

pub loop-i-preserved : goal.loop-i-preserved
loop-i-preserved c = added_more IsOfStrip c.loop-i.i _ _ _ c.loop-i.invariant c.in_ok-add_of_strip.ensures
