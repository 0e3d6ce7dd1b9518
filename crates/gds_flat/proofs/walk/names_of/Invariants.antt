use Rattle.std.proofs.Common.{◌≡◌, take}
use Rattle.gds_flat.specs.Walking.{names_at}
use Rattle.gds_flat.proofs.walk.names_of.Given as goal

abbrev pub invariant-loop-place : goal.invariant-loop-place
invariant-loop-place l = l.names ≡ names_at l.structures (take l.place-index l.places)
