use Rattle.std.proofs.Common.{map}
use Rattle.rt_strips.specs.Placed.{placed}
use Rattle.rt_vtemplate.proofs.Seams.{seam_more}
use Rattle.rt_vtemplate.proofs.found.add_of_seams.Goals as goal

pub loop-seam-preserved : goal.loop-seam-preserved
loop-seam-preserved c =
    seam_more (map placed c.args.strips.now.list) c.args.seams.now c.loop-seam.seam-index _ _ _ _ c.loop-seam-test.true c.loop-seam.invariant c.in_ok-add_of_standing.ensures
