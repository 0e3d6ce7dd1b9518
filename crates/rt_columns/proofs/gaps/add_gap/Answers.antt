use Rattle.std.proofs.Common.{map}
use Rattle.rt_strips.specs.Placed.{placed}
use Rattle.rt_columns.proofs.Seeing.{gap_named}
use Rattle.rt_columns.proofs.gaps.add_gap.Goals as goal

pub returns-in_ok-push : goal.returns-in_ok-push
returns-in_ok-push c =
    gap_named (map placed c.args.strips.now.list) c.args.over.now c.args.lower c.args.upper c.index-over-lower.result c.index-over-upper.result
    c.requires.lower c.requires.upper c.args.names.now c.push.new.self c.in_ok-push.ensures.ok c.if-not-is_on.ensures
