use Rattle.std.proofs.Common.{arith, map}
use Rattle.rt_strips.specs.Placed.{placed}
use Rattle.rt_pieces.proofs.Linking.{ends_rising, ends_falling}
use Rattle.rt_pieces.proofs.numbers.ends_of.Goals as goal

pub returns-then-below-above : goal.returns-then-below-above
returns-then-below-above c =
    ends_rising c.args.m (map placed c.args.strips.now) c.args.links.now c.args.seam.now c.requires.stands c.end_of-below.result c.end_of-above.result
    c.end_of-below.ensures.piece c.end_of-above.ensures.piece c.end_of-below.ensures.down c.end_of-above.ensures.down (omega arith)

pub returns-else-below-above : goal.returns-else-below-above
returns-else-below-above c =
    ends_falling c.args.m (map placed c.args.strips.now) c.args.links.now c.args.seam.now c.requires.stands c.end_of-below.result c.end_of-above.result
    c.end_of-below.ensures.piece c.end_of-above.ensures.piece c.end_of-below.ensures.down c.end_of-above.ensures.down (omega arith)
