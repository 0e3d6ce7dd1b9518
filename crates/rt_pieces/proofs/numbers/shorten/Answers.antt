use Rattle.std.proofs.Common.{map, get_or}
use Rattle.rt_strips.specs.Placed.{placed}
use Rattle.rt_pieces.proofs.Linking.{linked_on}
use Rattle.rt_pieces.proofs.numbers.shorten.Goals as goal

pub lower-requires-clause-piece : goal.lower-requires-clause-piece
lower-requires-clause-piece c h =
    linked_on c.args.m (map placed c.args.strips.now) c.loop-i.links c.loop-i.invariant.links c.loop-i.i (get_or c.loop-i.links c.loop-i.i 0)
    (c.loop-i.invariant.links.linked c.loop-i.i h)
