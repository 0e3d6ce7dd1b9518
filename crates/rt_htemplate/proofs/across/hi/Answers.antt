use Rattle.rt_htemplate.proofs.Answered.{hi_there}
use Rattle.rt_htemplate.proofs.across.hi.Goals as goal

pub returns-then-is_strip : goal.returns-then-is_strip
returns-then-is_strip c = hi_there c.args.job.now c.args.i c.beyond.result c.if-is_strip.ensures c.beyond.ensures
