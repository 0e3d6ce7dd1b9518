use Rattle.std.proofs.Common.{map}
use Rattle.rt_strips.specs.Placed.{placed}
use Rattle.rt_columns.proofs.Climbing.{run_named}
use Rattle.rt_columns.proofs.chains.add_run.Goals as goal

pub returns-in_ok-push : goal.returns-in_ok-push
returns-in_ok-push c =
    run_named (map placed c.args.strips.now.list) c.args.over.now c.args.lowest c.args.highest c.index-over-lowest.result c.index-over-highest.result
    c.requires.lowest c.requires.highest c.args.names.now c.push.new.self c.in_ok-push.ensures.ok c.if-not-is_stood_on.ensures
