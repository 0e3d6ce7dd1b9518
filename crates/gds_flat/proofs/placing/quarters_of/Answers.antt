use Rattle.gds_flat.proofs.PiecesThere.{quarters_low}
use Rattle.gds_flat.proofs.placing.quarters_of.Goals as goal

pub unreachable-requires : goal.unreachable-requires
unreachable-requires c = c.in-None.ensures c.requires.1.quarters c.requires.1.degrees

pub returns-clause-below : goal.returns-clause-below
returns-clause-below c = quarters_low c.args.place.now.angle c.in-Some.quarters c.in-Some.ensures
