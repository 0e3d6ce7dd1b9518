use Rattle.std.proofs.Common.{map, arith}
use Rattle.rt_strips.specs.Placed.{placed}
use Rattle.rt_columns.proofs.Seeing.{one_more_seen, all_seen, none_seen}
use Rattle.rt_columns.proofs.gaps.add_gaps_onward.Goals as goal

pub loop-upper-init : goal.loop-upper-init
loop-upper-init c = none_seen (map placed c.args.strips.now.list) c.args.over.now c.args.lower c.args.first c.args.names.now c.requires.some

pub loop-upper-preserved : goal.loop-upper-preserved
loop-upper-preserved c =
    one_more_seen (map placed c.args.strips.now.list) c.args.over.now c.requires.bars c.args.lower c.args.first c.requires.place c.requires.first
    c.loop-upper.upper c.loop-upper.least c.lower_top-least.result c.args.names.now c.loop-upper.names c.add_gap.new.names c.loop-upper.invariant c.loop-upper-test.true
    c.if-not-lies_above.ensures c.lower_top-least.ensures c.in_ok-add_gap.ensures

pub returns-else-not-lies_above : goal.returns-else-not-lies_above
returns-else-not-lies_above c =
    all_seen (map placed c.args.strips.now.list) c.args.over.now c.requires.bars c.args.lower c.args.first c.requires.place c.requires.first
    c.loop-upper.upper c.loop-upper.least c.args.names.now c.loop-upper.names c.loop-upper.invariant (λ h. c.if-not-lies_above.ensures)

pub returns-after-loop-upper : goal.returns-after-loop-upper
returns-after-loop-upper c =
    all_seen (map placed c.args.strips.now.list) c.args.over.now c.requires.bars c.args.lower c.args.first c.requires.place c.requires.first
    c.loop-upper.upper c.loop-upper.least c.args.names.now c.loop-upper.names c.loop-upper.invariant (λ h. absurd (omega (arith, c.loop-upper-test.false)))
