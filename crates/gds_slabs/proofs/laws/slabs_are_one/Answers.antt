use Rattle.gds_slabs.proofs.Coverings as coverings
use Rattle.gds_slabs.proofs.laws.slabs_are_one.Goals as goal

pub returns : goal.returns
returns c = coverings.slabs_are_one
