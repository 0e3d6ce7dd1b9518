use Rattle.std.proofs.Common.{◌≡◌, take, drop}
use Rattle.gds_flat.specs.Walking.{opens}
use Rattle.gds_flat.proofs.walk.circle.Given as goal

abbrev pub invariant-loop-frame : goal.invariant-loop-frame
invariant-loop-frame l = l.circle ≡ opens (take l.frame-index (drop l.place l.frames))
