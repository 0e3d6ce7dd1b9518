-- Two cuts that are kept: both are 2 by 2; the first lies 1 within its lower mask, a square of 4 by 4, and the second lies elsewhere. They are
-- drawn as 3 by 3, the first one 2 within a square of 7 by 7.
use Rattle.std.specs.Prelude.{ℕ, zero, suc, pos}
use Rattle.rt_cells.specs.Rectangles.{Rectangle}
use Rattle.rt_cuts.specs.Laws.{KeepsCutOn}

-- strips 0 and 1 are of the cut, mask 0, and strip 2 is of the lower mask, mask 1
abbrev pub mask_of : ℕ → ℕ
mask_of zero = 0
mask_of (suc zero) = 0
mask_of (suc (suc i)) = 1

-- strip 0 lies in mask 1, and strip 1 in a mask 2
abbrev pub lower_of : ℕ → ℕ
lower_of zero = 1
lower_of (suc i) = 2

-- the strips of the source
abbrev pub source_of : ℕ → Rectangle
source_of zero = record { left = pos 1; right = pos 3; bottom = pos 1; top = pos 3 }
source_of (suc zero) = record { left = pos 11; right = pos 13; bottom = pos 1; top = pos 3 }
source_of (suc (suc i)) = record { left = pos 0; right = pos 4; bottom = pos 0; top = pos 4 }

-- their drawing
abbrev pub drawn_of : ℕ → Rectangle
drawn_of zero = record { left = pos 2; right = pos 5; bottom = pos 2; top = pos 5 }
drawn_of (suc zero) = record { left = pos 20; right = pos 23; bottom = pos 2; top = pos 5 }
drawn_of (suc (suc i)) = record { left = pos 0; right = pos 7; bottom = pos 0; top = pos 7 }

-- the cut is kept with this lower mask: so what is said of lower masks isn't said of none
abbrev pub TwoCutsAreKept : Type 0
TwoCutsAreKept = KeepsCutOn 3 mask_of 0 1 lower_of source_of drawn_of (pos 1) (pos 2) (pos 1) (pos 1)
