-- A lying channel that fills its strip to the top, and an upright one beside it in the strip above. Strips 0 and 1 are of mask 0, which is cut;
-- strips 2 and 3 are of mask 1, which cuts.
use Rattle.std.specs.Prelude.{ℕ, zero, suc, Bool, true, false, pos}
use Rattle.rt_cells.specs.Rectangles.{Rectangle}
use Rattle.rt_parts.specs.Parts.{Cuts}
use Rattle.rt_parts.specs.Laws.{CutsOfMasks}

-- the masks of the strips
abbrev pub mask_of : ℕ → ℕ
mask_of zero = 0
mask_of (suc zero) = 0
mask_of (suc (suc i)) = 1

-- the strips
abbrev pub strip_of : ℕ → Rectangle
strip_of zero = record { left = pos 6; right = pos 9; bottom = pos 0; top = pos 5 }
strip_of (suc zero) = record { left = pos 0; right = pos 9; bottom = pos 5; top = pos 8 }
strip_of (suc (suc zero)) = record { left = pos 4; right = pos 11; bottom = pos 3; top = pos 5 }
strip_of (suc (suc (suc i))) = record { left = pos 4; right = pos 6; bottom = pos 5; top = pos 10 }

-- the channels
abbrev pub channel_of : ℕ → Rectangle
channel_of zero = record { left = pos 6; right = pos 9; bottom = pos 3; top = pos 5 }
channel_of (suc i) = record { left = pos 4; right = pos 6; bottom = pos 5; top = pos 8 }

-- the first channel lies
abbrev pub lies_of : ℕ → Bool
lies_of zero = true
lies_of (suc i) = false

-- each strip has one channel, that of its number
abbrev pub cuts_of : Cuts
cuts_of = record { lies = lies_of; count = λ a. 1; number = λ a j. a; before = λ c z. true }

-- they are cut so: what is said of strips that channels cut isn't said of none
abbrev pub TwoStripsAreCut : Type 0
TwoStripsAreCut = CutsOfMasks 4 mask_of 0 1 strip_of strip_of channel_of cuts_of
