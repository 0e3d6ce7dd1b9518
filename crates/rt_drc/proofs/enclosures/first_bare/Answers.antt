use Rattle.std.proofs.Common.{map}
use Rattle.rt_strips.specs.Placed.{placed, covered_by}
use Rattle.rt_drc.proofs.Enclosed.{was_grown, missing_near, missing_shows}
use Rattle.rt_drc.proofs.enclosures.first_bare.Goals as goal

pub shrunk-requires-clause-grown : goal.shrunk-requires-clause-grown
shrunk-requires-clause-grown c =
    was_grown c.args.counted.now c.args.strips.now c.args.number.now c.args.areas.now c.requires.areas c.loop-i.i c.index-areas-i.result c.loop-i-test.true c.index-areas-i.is

pub seen_from-requires : goal.seen_from-requires
seen_from-requires c =
    missing_near c.args.counted.now c.args.strips.now c.args.number.now c.args.areas.now c.requires.areas (covered_by c.args.mask (map placed c.args.strips.now))
    c.args.missing.now c.requires.missing c.loop-i.i c.index-areas-i.result c.in-Some.cell c.shrunk.result c.requires.number c.loop-i-test.true c.index-areas-i.is c.in-Some.is
    c.shrunk.ensures

pub returns-in-Some : goal.returns-in-Some
returns-in-Some c =
    missing_shows c.args.counted.now c.args.strips.now c.args.number.now c.args.areas.now c.requires.areas (covered_by c.args.mask (map placed c.args.strips.now))
    c.args.missing.now c.requires.missing c.loop-i.i c.index-areas-i.result c.in-Some.cell c.shrunk.result c.seen_from.result c.loop-i-test.true c.index-areas-i.is c.in-Some.is
    c.shrunk.ensures c.seen_from.ensures.seen c.seen_from.ensures.cell
