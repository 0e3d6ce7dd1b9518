use Rattle.gds_slabs.proofs.PathAreas.{listed_areas}
use Rattle.gds_slabs.proofs.laws.path_areas_are_listed.Goals as goal

pub returns : goal.returns
returns c = listed_areas
