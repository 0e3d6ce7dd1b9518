-- A mask that is carried: an L of two strips, one 10 wide and 4 high, the other 4 wide and 6 high on its left end, is drawn with
-- the width 5 and the space 5 as an L of 6 by 6.
use Rattle.std.specs.Prelude.{ℕ, zero, suc, ◌<◌, pos}
use Rattle.rt_cells.specs.Rectangles.{Rectangle}
use Rattle.rt_family.specs.Carried.{IsCarried, IsCarriedInColumns}

-- strip 0 and strip 1
pub record IsOfTwo (i : ℕ) : Type 0 where
  pub below : i < 2

-- the L of the source
abbrev pub source_of : ℕ → Rectangle
source_of zero = record { left = pos 0; right = pos 10; bottom = pos 0; top = pos 4 }
source_of (suc i) = record { left = pos 0; right = pos 4; bottom = pos 4; top = pos 10 }

-- its drawing
abbrev pub drawn_of : ℕ → Rectangle
drawn_of zero = record { left = pos 0; right = pos 6; bottom = pos 0; top = pos 5 }
drawn_of (suc i) = record { left = pos 0; right = pos 5; bottom = pos 5; top = pos 6 }

-- it is carried, in columns too: so what is said of carried masks isn't said of none
abbrev pub AnLIsCarried : Type 0
AnLIsCarried = IsCarried IsOfTwo source_of drawn_of (pos 5) (λ i j. pos 5) × IsCarriedInColumns IsOfTwo source_of drawn_of (pos 5)
