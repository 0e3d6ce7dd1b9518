use Rattle.std.proofs.Common.{◌≡◌, map, take}
use Rattle.rt_shapes.specs.Cutting.{place_of}
use Rattle.rt_shapes.proofs.bare.places.Given as goal

abbrev pub invariant-loop-strip : goal.invariant-loop-strip
invariant-loop-strip l = l.places.items ≡ map place_of (take l.strip-index l.strips)
