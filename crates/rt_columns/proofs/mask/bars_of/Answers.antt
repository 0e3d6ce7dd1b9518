use Rattle.std.proofs.Common.{map, length, arith, ap}
use Rattle.std.proofs.lemmas.List.{length-map}
use Rattle.rt_strips.specs.Placed.{placed}
use Rattle.rt_strips.proofs.Placed.{strip_there}
use Rattle.rt_columns.specs.Sides.{side_of}
use Rattle.rt_columns.proofs.Kept.{no_bars, one_more_bar, all_bars}
use Rattle.rt_columns.proofs.mask.bars_of.Goals as goal

pub loop-number-init : goal.loop-number-init
loop-number-init c =
    no_bars (map placed c.args.strips.now.list) (side_of c.args.lefts.now) (side_of c.args.rights.now) c.args.mask c.new-bars.result.items c.new-bars.ensures.items

pub loop-number-preserved : goal.loop-number-preserved
loop-number-preserved c =
    let long = ap length c.as_slice-number-end.ensures in
    one_more_bar (map placed c.args.strips.now.list) (side_of c.args.lefts.now) (side_of c.args.rights.now) c.args.mask c.loop-number.number
    c.loop-number.bars.items c.add_bar.new.bars.items (strip_there c.args.strips.now.list c.loop-number.number (omega arith)) c.loop-number.invariant c.in_ok-add_bar.ensures

pub returns : goal.returns
returns c =
    let long = ap length c.as_slice-number-end.ensures in
    let same = length-map c.args.strips.now.list placed in
    all_bars (map placed c.args.strips.now.list) (side_of c.args.lefts.now) (side_of c.args.rights.now) c.args.mask c.loop-number.number
    c.loop-number.bars.items (omega arith) c.loop-number.invariant
