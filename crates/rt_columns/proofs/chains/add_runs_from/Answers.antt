use Rattle.std.proofs.Common.{map, arith}
use Rattle.rt_strips.specs.Placed.{placed}
use Rattle.rt_columns.proofs.Climbing.{no_runs_to, one_more_end, all_ends}
use Rattle.rt_columns.proofs.chains.add_runs_from.Goals as goal

pub loop-highest-init : goal.loop-highest-init
loop-highest-init c = no_runs_to (map placed c.args.strips.now.list) c.args.over.now c.args.lowest c.args.reached.now c.args.names.now

pub loop-highest-preserved : goal.loop-highest-preserved
loop-highest-preserved c =
    one_more_end (map placed c.args.strips.now.list) c.args.over.now c.args.lowest c.args.reached.now c.loop-highest.highest-index
    c.args.names.now c.loop-highest.names c.add_run.new.names c.loop-highest.invariant c.in_ok-add_run.ensures

pub returns : goal.returns
returns c =
    all_ends (map placed c.args.strips.now.list) c.args.over.now c.args.lowest c.args.reached.now c.loop-highest.highest-index
    c.args.names.now c.loop-highest.names c.requires.reached (omega arith) (omega arith) c.loop-highest.invariant
