use Rattle.gds_flat.proofs.Sequences.{acyclic_has_none}
use Rattle.gds_flat.proofs.laws.no_circle.Goals as goal

pub returns : goal.returns
returns c = λ library order names a c h. acyclic_has_none library order names a c h
