-- Which strips stand on which.
use Rattle.std.specs.Prelude.{◌≡◌, ℕ, ◌<◌, ℤ, ◌<ℤ◌, ◌⊎◌, List, length}
use Rattle.std.specs.Int.{int_max, int_min}
use Rattle.rt_cells.specs.Line.{gap_of}
use Rattle.rt_strips.specs.Placed.{Placed, mask_of, left_of, right_of, bottom_of, top_of}

-- the second rectangle stands on the first: they are of one mask, the first ends where the second begins, and they have a common column
pub record IsUnder (a b : Placed) : Type 0 where
  pub one_mask : a.mask ≡ b.mask
  pub adjoin : a.area.top ≡ b.area.bottom
  pub over : int_max a.area.left b.area.left <ℤ int_min a.area.right b.area.right

module _ (strips : List Placed) where
  -- there is a strip of that number
  pub record IsStrip (i : ℕ) : Type 0 where
    pub below_count : i < length strips

  -- both are strips, of one mask
  pub record AreOfOneMask (i j : ℕ) : Type 0 where
    pub first : IsStrip i
    pub second : IsStrip j
    pub one_mask : mask_of strips i ≡ mask_of strips j

  -- the two strips have a common column
  pub record ShareColumn (i j : ℕ) : Type 0 where
    pub common : int_max (left_of strips i) (left_of strips j) <ℤ int_min (right_of strips i) (right_of strips j)

  -- the two strips have a common row
  pub record ShareRow (i j : ℕ) : Type 0 where
    pub common : int_max (bottom_of strips i) (bottom_of strips j) <ℤ int_min (top_of strips i) (top_of strips j)

  -- how many rows lie between the two strips
  abbrev pub rows_apart : ℕ → ℕ → ℤ
  rows_apart i j = gap_of (bottom_of strips i) (top_of strips i) (bottom_of strips j) (top_of strips j)

  -- strip j stands on strip i of its mask, over a common column
  pub record StandsOn (i j : ℕ) : Type 0 where
    pub strips_of_one_mask : AreOfOneMask i j
    pub adjoin : top_of strips i ≡ bottom_of strips j
    pub over : ShareColumn i j

  -- one of the two stands on the other
  abbrev pub Touch : ℕ → ℕ → Type 0
  Touch i j = StandsOn i j ⊎ StandsOn j i

  -- strip j is climbed from strip i: a chain of strips, each standing on the one before, leads from i to j
  pub data IsClimbed (i : ℕ) : ℕ → Type 0 where
    step : (j : ℕ) → StandsOn i j → IsClimbed i j
    onward : (j k : ℕ) → IsClimbed i j → StandsOn j k → IsClimbed i k
