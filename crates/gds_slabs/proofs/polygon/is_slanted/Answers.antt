use Rattle.gds_slabs.proofs.Slants.{decided}
use Rattle.gds_slabs.proofs.polygon.is_slanted.Goals as goal

pub returns-in-Some : goal.returns-in-Some
returns-in-Some c = decided c.args.points.now c.in-Some.first.now c.in-Some.rest.now c.goes_slanted.result c.in-Some.ensures.cases.0 c.goes_slanted.ensures
