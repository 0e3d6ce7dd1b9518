-- Two metals with a cut between them: strip 0 is of the lower metal, strip 1 of the upper one, both 4 by 4, and strip 2 is a cut of 2 by 2
-- in their middle. They are drawn as squares of 7 by 7 with a cut of 3 by 3.
use Rattle.std.specs.Prelude.{ℕ, zero, suc, pos, ◌==◌, not}
use Rattle.rt_cells.specs.Rectangles.{Rectangle}
use Rattle.rt_links.specs.Wires.{Wires, CarriesWires}

-- each strip is of the mask of its number; masks 0 and 1 conduct
abbrev pub two_metals : Wires
two_metals = record { count = 3; mask = λ i. i; conducting = λ m. not (m == 2); cuts = λ i. i == 2; upper = λ c. 1; lower = λ c. 0 }

-- the strips of the source
abbrev pub source_of : ℕ → Rectangle
source_of zero = record { left = pos 0; right = pos 4; bottom = pos 0; top = pos 4 }
source_of (suc zero) = record { left = pos 0; right = pos 4; bottom = pos 0; top = pos 4 }
source_of (suc (suc i)) = record { left = pos 1; right = pos 3; bottom = pos 1; top = pos 3 }

-- their drawing
abbrev pub drawn_of : ℕ → Rectangle
drawn_of zero = record { left = pos 0; right = pos 7; bottom = pos 0; top = pos 7 }
drawn_of (suc zero) = record { left = pos 0; right = pos 7; bottom = pos 0; top = pos 7 }
drawn_of (suc (suc i)) = record { left = pos 2; right = pos 5; bottom = pos 2; top = pos 5 }

-- they are carried: so what is said of nets isn't said of none
abbrev pub TwoMetalsAreCarried : Type 0
TwoMetalsAreCarried = CarriesWires two_metals source_of drawn_of
