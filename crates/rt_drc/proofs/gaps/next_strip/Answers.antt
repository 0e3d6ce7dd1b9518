use Rattle.std.proofs.Common.{◌+◌, map, subst, sym}
use Rattle.rt_strips.specs.Placed.{placed}
use Rattle.rt_strips.proofs.Placed.{strip_below}
use Rattle.rt_drc.specs.Following.{IsNextBefore}
use Rattle.rt_drc.proofs.Gapped.{next_taken, next_kept}
use Rattle.rt_drc.proofs.gaps.next_strip.Goals as goal
use Rattle.rt_drc.proofs.gaps.next_strip.Goals.{then-comes_sooner, else-comes_sooner}

pub loop-i-preserved : goal.loop-i-preserved
loop-i-preserved c =
    let strips = c.args.strips.now in
    let known = strip_below strips c.loop-i.next c.loop-i.invariant.after.strip in
    elim c.if-comes_sooner.branch [
      | then-comes_sooner w ↦
          subst (IsNextBefore c.args.m c.args.cell.now (map placed strips) (c.loop-i.i + 1)) (sym w.next-is)
          (next_taken c.args.m c.args.cell.now strips c.loop-i.i c.loop-i.next c.index-strips-i.result c.index-strips-next.result c.loop-i-test.true known
          c.index-strips-i.is c.index-strips-next.is w.if-comes_sooner.ensures c.loop-i.invariant)
      | else-comes_sooner w ↦
          subst (IsNextBefore c.args.m c.args.cell.now (map placed strips) (c.loop-i.i + 1)) (sym w.next-is)
          (next_kept c.args.m c.args.cell.now strips c.loop-i.i c.loop-i.next c.index-strips-i.result c.index-strips-next.result c.loop-i-test.true known
          c.index-strips-i.is c.index-strips-next.is w.if-comes_sooner.ensures c.loop-i.invariant)
    ]
