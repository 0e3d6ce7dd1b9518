-- Strips by their numbers, as rectangles of masks, and what a mask covers by them.
use Rattle.std.specs.Prelude.{ℕ, ℤ, pos, ◌==◌, List, map, filter, slice_index_or}
use Rattle.rt_cells.specs.Rectangles.{Rectangle, Covers}
use Rattle.rt_base.specs.Plane.{area}
use Rattle.rt_strips.specs.declared.listing.Strip.{Strip}

-- a rectangle of a mask
pub record Placed : Type 0 where
  pub mask : ℕ
  pub area : Rectangle

-- a strip as a rectangle of its mask
abbrev pub placed : Strip → Placed
placed strip = record { mask = strip.mask; area = area strip.at }

-- stands for a strip that isn't there
abbrev pub no_strip : Placed
no_strip = record { mask = 0; area = record { left = pos 0; right = pos 1; bottom = pos 0; top = pos 1 } }

module _ (strips : List Placed) where
  -- the strip of a number
  abbrev pub strip_at : ℕ → Placed
  strip_at i = slice_index_or strips i no_strip

  abbrev pub mask_of : ℕ → ℕ
  mask_of i = (strip_at i).mask

  abbrev pub left_of : ℕ → ℤ
  left_of i = (strip_at i).area.left

  abbrev pub right_of : ℕ → ℤ
  right_of i = (strip_at i).area.right

  abbrev pub bottom_of : ℕ → ℤ
  bottom_of i = (strip_at i).area.bottom

  abbrev pub top_of : ℕ → ℤ
  top_of i = (strip_at i).area.top

-- the rectangles of one mask
abbrev pub areas_of : ℕ → List Placed → List Rectangle
areas_of m strips = map (λ (p : Placed). p.area) (filter (λ (p : Placed). p.mask == m) strips)

-- what a mask covers by these rectangles
abbrev pub covered_by : ℕ → List Placed → ℤ → ℤ → Type 0
covered_by m strips = Covers (areas_of m strips)
