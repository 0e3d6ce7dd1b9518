use Rattle.gds_slabs.proofs.Coverings.{has_slabs}
use Rattle.gds_slabs.proofs.laws.slabs_are_there.Goals as goal

pub returns : goal.returns
returns c = has_slabs
