use Rattle.std.proofs.Common.{length}
use Rattle.rt_path.proofs.Bounded.{last_there, bound_by}
use Rattle.rt_path.proofs.found.bound.Goals as goal

pub chain-requires-clause-there : goal.chain-requires-clause-there
chain-requires-clause-there c = last_there (length c.args.now.now) c.args.steps.now c.args.log.now c.args.now.now 1 c.in-Some.last c.requires.going c.in-Some.is

pub returns : goal.returns
returns c =
    bound_by (length c.args.now.now) c.args.steps.now c.args.log.now c.args.now.now c.in-Some.last c.in_ok-shares.shares c.new-nodes.result c.push.new.self c.requires.going
    c.in-Some.is c.in_ok-shares.ensures c.new-nodes.ensures c.in_ok-push.ensures.ok
