use Rattle.std.proofs.Common.{◌≡◌, ap, arith, get_or, map}
use Rattle.std.proofs.lemmas.Int.{ints}
use Rattle.rt_cells.specs.Rectangles.{Rectangle}
use Rattle.rt_strips.specs.Placed.{placed}
use Rattle.rt_strips.proofs.Placed.{strip_below}
use Rattle.rt_pieces.specs.Members.{box_of}
use Rattle.rt_pieces.proofs.Reading.{box_at}
use Rattle.rt_drc.proofs.Gapped.{neighbours_there, follows_first, follows_second}
use Rattle.rt_drc.proofs.gaps.gap_of.Goals as goal

pub gap_behind-requires-clause-pair : goal.gap_behind-requires-clause-pair
gap_behind-requires-clause-pair c =
    let strips = c.args.strips.now in
    let i = c.args.pair.now.first in
    let j = c.args.pair.now.second in
    let there = neighbours_there c.args.m c.args.reach.now.across (map placed strips) i j c.requires.pair in
    let a : (box_of (map placed strips) i).left ≡ (get_or strips i c.index-strips-pair.result).at.x1 =
    ap (λ (r : Rectangle). r.left) (box_at strips i c.index-strips-pair.result (strip_below strips i there.0.strip)) in
    let b : (box_of (map placed strips) j).left ≡ (get_or strips j c.index-strips-pair-2.result).at.x1 =
    ap (λ (r : Rectangle). r.left) (box_at strips j c.index-strips-pair-2.result (strip_below strips j there.1.strip)) in
    follows_first c.args.m c.args.reach.now.across (map placed strips) c.requires.family i j c.requires.pair (omega (arith, ints, a, b))

pub gap_behind-requires-else-strips-pair-clause-pair : goal.gap_behind-requires-else-strips-pair-clause-pair
gap_behind-requires-else-strips-pair-clause-pair c =
    let strips = c.args.strips.now in
    let i = c.args.pair.now.first in
    let j = c.args.pair.now.second in
    let there = neighbours_there c.args.m c.args.reach.now.across (map placed strips) i j c.requires.pair in
    let a : (box_of (map placed strips) i).left ≡ (get_or strips i c.index-strips-pair.result).at.x1 =
    ap (λ (r : Rectangle). r.left) (box_at strips i c.index-strips-pair.result (strip_below strips i there.0.strip)) in
    let b : (box_of (map placed strips) j).left ≡ (get_or strips j c.index-strips-pair-2.result).at.x1 =
    ap (λ (r : Rectangle). r.left) (box_at strips j c.index-strips-pair-2.result (strip_below strips j there.1.strip)) in
    follows_second c.args.m c.args.reach.now.across (map placed strips) c.requires.family i j c.requires.pair (omega (arith, ints, a, b))
