use Rattle.std.proofs.Common.{map}
use Rattle.rt_strips.specs.Placed.{placed}
use Rattle.rt_columns.proofs.Seeing.{none_below, one_more}
use Rattle.rt_columns.proofs.gaps.add_gaps.Goals as goal

pub loop-lower-init : goal.loop-lower-init
loop-lower-init c = none_below (map placed c.args.strips.now.list) c.args.over.now c.args.names.now

pub loop-lower-preserved : goal.loop-lower-preserved
loop-lower-preserved c =
    one_more (map placed c.args.strips.now.list) c.args.over.now c.loop-lower.lower c.args.names.now c.loop-lower.names c.add_gaps_from.new.names
    c.loop-lower.invariant c.in_ok-add_gaps_from.ensures
