-- Rectangles and the strips of a mask as bars of one sweep, under one count: the rectangles from 0, and the strips behind them.
use Rattle.std.specs.Prelude.{◌≡◌, ℕ, ◌+◌, ◌<◌, List, ◌++◌, length, map, Contains, slice_index_or}
use Rattle.rt_cells.specs.Rectangles.{Rectangle}
use Rattle.rt_base.specs.declared.plane.Rect.{Rect}
use Rattle.rt_base.specs.Plane.{area}
use Rattle.rt_sweep.specs.declared.bar.Bar.{Bar}
use Rattle.rt_strips.specs.Placed.{Placed, mask_of}

-- the rectangles, and those of all strips behind them
abbrev pub counted_together : List Placed → List Rect → List Rectangle
counted_together strips areas = map area areas ++ map (λ (p : Placed). p.area) strips

module _ (m : ℕ) (strips : List Placed) (areas : List Rect) where
  -- number t is that of a rectangle, or of a strip of mask m
  pub record IsTaken (t : ℕ) : Type 0 where
    pub of_mask : (i : ℕ) → t ≡ length areas + i → mask_of strips i ≡ m

  -- the bar is one of the first n that are taken, tagged by its number
  pub record IsBarOf (n : ℕ) (bar : Bar) : Type 0 where
    pub below : bar.tag < n
    pub taken : IsTaken bar.tag
    pub at : (d : Rectangle) → slice_index_or (counted_together strips areas) bar.tag d ≡ area bar.at

  -- the bars are the first n that are taken, tagged by their numbers
  pub record AreBarsOf (n : ℕ) (bars : List Bar) : Type 0 where
    pub each : (bar : Bar) → Contains bars bar → IsBarOf n bar
    pub every : (t : ℕ) → t < n → IsTaken t → (bar : Bar) × Contains bars bar × (bar.tag ≡ t)
