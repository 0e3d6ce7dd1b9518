use Rattle.rt_base.specs.Plane.{area}
use Rattle.rt_drc.proofs.Enclosed.{grown_most}
use Rattle.rt_drc.proofs.enclosures.seen_beyond.Goals as goal

pub seen_from-requires : goal.seen_from-requires
seen_from-requires c = grown_most c.args.number.now (area c.args.at.now) c.in-Some.cell.x c.in-Some.cell.y c.requires c.in-Some.ensures.inside
