use Rattle.std.proofs.Common.{arith, below_more}
use Rattle.rt_drc.proofs.Wide.{narrow_strip_shows, wide_strip_is, wide_strips}
use Rattle.rt_drc.specs.Rows.{cells_of}
use Rattle.rt_drc.proofs.width.narrow_run.Goals as goal

pub returns-in-Some : goal.returns-in-Some
returns-in-Some c =
    narrow_strip_shows (cells_of c.args.rows.now.strips.now) c.args.masks c.args.rows.now.strips.now c.requires.strips_are c.args.m c.args.width.now
    c.loop-strip.strip-index c.strip-item.result c.in-Some.witness (omega arith) c.strip-item.is c.in-Some.ensures

pub loop-strip-preserved : goal.loop-strip-preserved
loop-strip-preserved c =
    below_more _ _ c.loop-strip.invariant
    (wide_strip_is c.args.m c.args.width.now c.args.rows.now.strips.now c.loop-strip.strip-index c.strip-item.result (omega arith) c.strip-item.is c.in_default.ensures)

pub returns : goal.returns
returns c = wide_strips c.args.m c.args.width.now c.args.rows.now.strips.now (λ i h. c.loop-strip.invariant i (omega arith))
