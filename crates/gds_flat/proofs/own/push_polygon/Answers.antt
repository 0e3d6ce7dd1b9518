use Rattle.gds_flat.proofs.PiecesShown.{rectangle_appended}
use Rattle.gds_flat.proofs.own.push_polygon.Goals as goal

pub returns-in-Some : goal.returns-in-Some
returns-in-Some c =
    rectangle_appended c.push.result c.args.offset c.args.mask c.args.points.now c.in-Some.rect c.args.items.now c.push.new.self c.in-Some.ensures
    c.push.ensures.ok
