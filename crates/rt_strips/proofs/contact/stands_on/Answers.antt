use Rattle.std.proofs.Common.{rules}
use Rattle.rt_strips.proofs.Standing.{under}
use Rattle.rt_strips.proofs.contact.stands_on.Goals as goal

pub returns : goal.returns
returns c =
    under c.args.below.now c.args.above.now (search rules) (search rules) (search rules) (search rules)
