use Rattle.std.proofs.Common.{◌≡◌, [], replicate}
use Rattle.gds_flat.proofs.drawing.blank.Given as goal

abbrev pub invariant-loop : goal.invariant-loop
invariant-loop l = l.masks.items ≡ replicate l.counter []
