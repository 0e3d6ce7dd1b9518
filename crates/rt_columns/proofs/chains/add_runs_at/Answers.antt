use Rattle.std.proofs.Common.{map}
use Rattle.rt_strips.specs.Placed.{placed}
use Rattle.rt_columns.proofs.Climbing.{run_at, no_run_at}
use Rattle.rt_columns.proofs.chains.add_runs_at.Goals as goal

pub returns-then-stands : goal.returns-then-stands
returns-then-stands c = no_run_at (map placed c.args.strips.now.list) c.args.over.now c.args.place c.args.names.now c.if-stands.ensures

pub returns : goal.returns
returns c =
    run_at (map placed c.args.strips.now.list) c.args.over.now c.args.place c.args.names.now c.add_runs_from.new.names c.if-stands.ensures c.in_ok-add_runs_from.ensures
