use Rattle.std.proofs.Common.{map, subst, sym}
use Rattle.rt_strips.specs.Placed.{placed}
use Rattle.rt_strips.specs.Seams.{AreSeamsOf}
use Rattle.rt_shapes.proofs.Cutting.{none_bent}
use Rattle.rt_shapes.proofs.bent.check_bent.Goals as goal

pub returns-clause-alone : goal.returns-clause-alone
returns-clause-alone c =
    let strips = map placed c.args.strips.now in
    none_bent c.args.tech.now strips c.as_slice.result.now (subst (AreSeamsOf strips) (sym c.as_slice.ensures) c.in_ok-seams.ensures) c.in-None.ensures
