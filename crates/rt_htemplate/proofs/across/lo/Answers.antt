use Rattle.rt_htemplate.proofs.Answered.{lo_there}
use Rattle.rt_htemplate.proofs.across.lo.Goals as goal

pub returns-then-is_strip : goal.returns-then-is_strip
returns-then-is_strip c = lo_there c.args.job.now c.args.i c.at_least.result c.if-is_strip.ensures c.at_least.ensures
