use Rattle.std.proofs.Common.{◌≡◌, map, take}
use Rattle.rt_strips.specs.declared.listing.Strip.{Strip}
use Rattle.rt_drc.proofs.apart.masks_of.Given as goal

abbrev pub invariant-loop-strip : goal.invariant-loop-strip
invariant-loop-strip l = l.masks.items ≡ map (λ (strip : Strip). strip.mask) (take l.strip-index l.strips)
