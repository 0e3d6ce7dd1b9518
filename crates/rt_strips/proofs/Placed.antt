-- The strips of a job by their numbers.
use Rattle.std.proofs.Common.{◌≡◌, ℕ, ◌<◌, List, length, get_or, map, sym, ap, ◌∙◌, arith}
use Rattle.std.proofs.lemmas.List.{get_or-map, length-map}
use Rattle.rt_strips.specs.declared.listing.Strip.{Strip}
use Rattle.rt_strips.specs.Placed.{placed, no_strip, strip_at}
use Rattle.rt_strips.specs.Standing.{IsStrip}

-- a number below the count of the strips is that of a strip
pub strip_there : (strips : List Strip) (i : ℕ) → i < length strips → IsStrip (map placed strips) i
strip_there strips i h = record { below_count = omega (arith, length-map strips placed, h) }

-- and the other way round
pub strip_below : (strips : List Strip) (i : ℕ) → IsStrip (map placed strips) i → i < length strips
strip_below strips i h = omega (arith, length-map strips placed, h.below_count)

-- a strip of the code is that of its number
pub placed_at : (strips : List Strip) (i : ℕ) (d : Strip) → i < length strips → strip_at (map placed strips) i ≡ placed (get_or strips i d)
placed_at strips i d h = get_or-map placed strips i d no_strip h

-- a strip that the code reads is that of its number
pub strip_is : (strips : List Strip) (i : ℕ) (strip : Strip) → i < length strips → strip ≡ get_or strips i strip → strip_at (map placed strips) i ≡ placed strip
strip_is strips i strip h is = placed_at strips i strip h ∙ ap placed (sym is)
