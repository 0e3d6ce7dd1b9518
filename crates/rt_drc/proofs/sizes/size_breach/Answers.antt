use Rattle.std.proofs.Common.{arith, below_more}
use Rattle.rt_drc.proofs.Squared.{odd_shows, square_is, squares_keep}
use Rattle.rt_drc.proofs.sizes.size_breach.Goals as goal

pub returns-in-Some : goal.returns-in-Some
returns-in-Some c =
    odd_shows c.args.m c.args.size.now c.args.strips.now c.loop-strip.strip-index c.strip-item.result c.in-Some.witness c.requires
    (omega arith) c.strip-item.is c.in-Some.ensures

pub loop-strip-preserved : goal.loop-strip-preserved
loop-strip-preserved c =
    below_more _ _ c.loop-strip.invariant
    (square_is c.args.m c.args.size.now c.args.strips.now c.loop-strip.strip-index c.strip-item.result (omega arith) c.strip-item.is c.in_default.ensures)

pub returns : goal.returns
returns c = squares_keep c.args.m c.args.size.now c.args.strips.now c.requires (λ i h. c.loop-strip.invariant i (omega arith))
