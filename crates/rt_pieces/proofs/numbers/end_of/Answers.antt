use Rattle.std.proofs.Common.{arith, map}
use Rattle.rt_strips.specs.Placed.{placed}
use Rattle.rt_pieces.proofs.Linking.{linked_on, link_there}
use Rattle.rt_pieces.proofs.numbers.end_of.Goals as goal

pub loop-end-preserved : goal.loop-end-preserved
loop-end-preserved c =
    let strips = map placed c.args.strips.now in
    record {
      there = link_there c.args.m strips c.args.links.now c.requires.links c.loop-end.end c.loop-end.invariant.there;
      piece = linked_on c.args.m strips c.args.links.now c.requires.links c.args.i c.loop-end.end c.loop-end.invariant.piece;
      down = omega (arith, c.requires.links.counted, c.loop-end.invariant.there, c.requires.links.down c.loop-end.end, c.loop-end.invariant.down);
    }
