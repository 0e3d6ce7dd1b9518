use Rattle.gds_flat.proofs.Ranking.{deepest_own, deepest_one, placed_one}
use Rattle.gds_flat.proofs.depths.depth_of.Goals as goal

pub depth_named-requires-clause-before : goal.depth_named-requires-clause-before
depth_named-requires-clause-before c = c.requires.before c.in-Some.name.now (placed_one c.args.element.now c.in-Some.name.now c.in-Some.ensures)

pub returns-in-Some-clause-deepest : goal.returns-in-Some-clause-deepest
returns-in-Some-clause-deepest c =
    deepest_one c.args.names.now.structures.now c.args.element.now c.in-Some.name.now c.depth_named.result c.in-Some.ensures c.depth_named.ensures.depth

pub returns-in-None-clause-deepest : goal.returns-in-None-clause-deepest
returns-in-None-clause-deepest c = deepest_own c.args.names.now.structures.now c.args.element.now c.in-None.ensures
