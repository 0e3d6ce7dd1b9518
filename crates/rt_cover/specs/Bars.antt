-- Rectangles and the strips of a mask as bars of one sweep.
use Rattle.std.specs.Prelude.{◌≡◌, ℕ, ◌+◌, ◌<◌, ◌⊎◌, List, length, Contains, slice_index_or}
use Rattle.rt_family.specs.Laws.{IsOfMask as IsNumberOfMask}
use Rattle.rt_base.specs.declared.plane.Rect.{Rect}
use Rattle.rt_base.specs.Plane.{area}
use Rattle.rt_sweep.specs.declared.bar.Bar.{Bar}
use Rattle.rt_strips.specs.Placed.{Placed, strip_at, mask_of}

-- strip i is of the mask
abbrev pub IsOf : ℕ → List Placed → ℕ → Type 0
IsOf m strips = IsNumberOfMask (length strips) (mask_of strips) m

-- the bar is one of the first k rectangles, and its tag is the number of it
pub record IsAreaBar (areas : List Rect) (k : ℕ) (bar : Bar) : Type 0 where
  pub below : bar.tag < k
  pub at : (d : Rect) → slice_index_or areas bar.tag d ≡ bar.at

-- the bar is one of the first n strips, which is of mask m, and its tag is the number of it behind a count
pub record IsStripBar (m : ℕ) (strips : List Placed) (n count : ℕ) (bar : Bar) : Type 0 where
  pub number : ℕ
  pub below : number < n
  pub of_mask : IsOf m strips number
  pub tagged : bar.tag ≡ count + number
  pub at : area bar.at ≡ (strip_at strips number).area

-- the strip of a number stands among the bars, and its tag is that number behind a count
pub record HasStripBar (strips : List Placed) (count : ℕ) (bars : List Bar) (i : ℕ) : Type 0 where
  pub bar : Bar
  pub listed : Contains bars bar
  pub tagged : bar.tag ≡ count + i
  pub at : area bar.at ≡ (strip_at strips i).area

-- the bars are the first k rectangles, tagged by their numbers, and those of the first n strips that are of mask m, tagged by their numbers
-- behind the count of the rectangles
pub record AreBarsOf (m : ℕ) (strips : List Placed) (n : ℕ) (areas : List Rect) (k : ℕ) (bars : List Bar) : Type 0 where
  pub each : (bar : Bar) → Contains bars bar → IsAreaBar areas k bar ⊎ IsStripBar m strips n (length areas) bar
  pub each_area : (t : ℕ) (d : Rect) → t < k → Contains bars (record { at = slice_index_or areas t d; tag = t })
  pub each_strip : (i : ℕ) → i < n → IsOf m strips i → HasStripBar strips (length areas) bars i
