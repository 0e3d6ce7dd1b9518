use Rattle.gds_flat.proofs.Ranking.{rank_low, among_all}
use Rattle.gds_flat.proofs.depths.rank_before.Goals as goal

pub unreachable-requires : goal.unreachable-requires
unreachable-requires c =
    c.in-None.ensures (among_all c.args.names.now.structures.now c.args.walk.now.finish.items c.args.name.now c.args.count c.requires.before)

pub returns-clause-below : goal.returns-clause-below
returns-clause-below c =
    rank_low c.args.names.now.structures.now c.args.walk.now.marks.items c.args.walk.now.order.items c.args.walk.now.finish.items c.args.name.now c.args.count c.in-Some.place
    c.requires.tree.marked c.requires.before c.in-Some.ensures
