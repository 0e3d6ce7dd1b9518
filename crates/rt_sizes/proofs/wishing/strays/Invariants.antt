use Rattle.std.proofs.Common.{◌≡◌, drop}
use Rattle.rt_sizes.specs.Wishes.{stray_fault}
use Rattle.rt_sizes.proofs.wishing.strays.Given as goal

abbrev pub invariant-loop-i : goal.invariant-loop-i
invariant-loop-i l = stray_fault l.count 0 l.devices ≡ stray_fault l.count l.i (drop l.i l.devices)
