use Rattle.std.proofs.Common.{map}
use Rattle.rt_strips.specs.Placed.{placed}
use Rattle.rt_columns.proofs.Climbing.{none_passed, no_runs_below, still_passed, one_more_start}
use Rattle.rt_columns.proofs.chains.add_runs.Goals as goal

pub loop-lowest-init : goal.loop-lowest-init
loop-lowest-init c = record {
  passed = none_passed c.args.over.now 0;
  adds = no_runs_below (map placed c.args.strips.now.list) c.args.over.now c.args.names.now;
}

pub loop-lowest-preserved : goal.loop-lowest-preserved
loop-lowest-preserved c = record {
  passed = still_passed c.args.over.now c.first_not_passed-from.result c.loop-lowest.lowest c.first_not_passed-from.ensures;
  adds = one_more_start (map placed c.args.strips.now.list) c.args.over.now c.loop-lowest.lowest c.args.names.now c.loop-lowest.names c.add_runs_at.new.names
      c.loop-lowest.invariant.adds c.in_ok-add_runs_at.ensures;
}
