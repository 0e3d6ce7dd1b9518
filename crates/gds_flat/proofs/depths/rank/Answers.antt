use Rattle.std.proofs.Common.{sym}
use Rattle.gds_flat.proofs.Ranking.{not_there}
use Rattle.gds_flat.proofs.depths.rank.Goals as goal

pub returns-in-None : goal.returns-in-None
returns-in-None c =
    not_there c.args.names.now.structures.now c.args.walk.now.marks.items c.args.walk.now.order.items c.args.walk.now.finish.items c.args.name.now
    c.requires (sym c.in-None.ensures)
