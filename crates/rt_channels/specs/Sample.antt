-- One crossing: strip 0 of mask 0, 2 wide, runs upwards through strip 1 of mask 1, 2 tall. It is drawn as it is, and its channel is the square
-- of 2 by 2 in the middle.
use Rattle.std.specs.Prelude.{ℕ, zero, suc, pos, false}
use Rattle.rt_cells.specs.Rectangles.{Rectangle}
use Rattle.rt_channels.specs.Laws.{AreCarried}

-- the upright strip, and the one that it crosses
abbrev pub boxes : ℕ → Rectangle
boxes zero = record { left = pos 4; right = pos 6; bottom = pos 0; top = pos 10 }
boxes (suc i) = record { left = pos 0; right = pos 10; bottom = pos 4; top = pos 6 }

-- what they have in common
abbrev pub channel_area : Rectangle
channel_area = record { left = pos 4; right = pos 6; bottom = pos 4; top = pos 6 }

-- they are carried: so what is said of carried channels isn't said of none
abbrev pub OneCrossingIsCarried : Type 0
OneCrossingIsCarried = AreCarried 2 (λ i. i) 0 1 boxes boxes 1 (λ c. false) (λ c. channel_area) (λ c. channel_area)
