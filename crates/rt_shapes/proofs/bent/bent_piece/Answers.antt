use Rattle.std.proofs.Common.{map, refl}
use Rattle.rt_base.specs.Plane.{area}
use Rattle.rt_strips.specs.Placed.{placed}
use Rattle.rt_shapes.proofs.Cutting.{bent_shown}
use Rattle.rt_shapes.proofs.bent.bent_piece.Goals as goal

pub returns-in-Ok : goal.returns-in-Ok
returns-in-Ok c =
    let seam = c.args.seam.now in (
      refl,
      bent_shown c.args.tech.now (map placed c.args.strips.now) c.requires.strips seam.below seam.above c.requires.bent.cut c.requires.bent.stands (area c.in-Ok.rect) c.in-Ok.ensures,
    )
