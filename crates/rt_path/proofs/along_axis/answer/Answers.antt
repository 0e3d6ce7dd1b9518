use Rattle.std.proofs.Common.{◌+◌}
use Rattle.rt_path.proofs.Answered.{extent_reached}
use Rattle.rt_path.proofs.along_axis.answer.Goals as goal

pub bound-requires-clause-extent : goal.bound-requires-clause-extent
bound-requires-clause-extent c = extent_reached (2 + c.args.count + c.args.count) c.args.steps.now c.args.log.now c.args.now.now c.requires.ended c.requires.extent
