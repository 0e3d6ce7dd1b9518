-- The strips of what the masks cover: rectangles that cover each mask's cells once, whose rows are whole runs, and of which
-- none stands on another of its columns, in order of mask, then bottom, then left.
use Rattle.std.specs.Prelude.{◌≡◌, ℕ, ◌<◌, ℤ, ◌<ℤ◌, ◌⊎◌, ◌↔◌, List}
use Rattle.rt_cells.specs.Line.{IsRun, Within}
use Rattle.rt_cells.specs.Cells.{row_of}
use Rattle.rt_cells.specs.Rectangles.{IsNonempty, Holds}
use Rattle.rt_strips.specs.Placed.{Placed, strip_at, mask_of, left_of, right_of, bottom_of, top_of, covered_by}
use Rattle.rt_strips.specs.Standing.{IsStrip, AreOfOneMask, StandsOn}

-- strip i comes before strip j: by mask, then by bottom, then by left
abbrev pub ComesBefore : List Placed → ℕ → ℕ → Type 0
ComesBefore strips i j = (mask_of strips i < mask_of strips j)
    ⊎ ((mask_of strips i ≡ mask_of strips j)
    × ((bottom_of strips i <ℤ bottom_of strips j)
    ⊎ ((bottom_of strips i ≡ bottom_of strips j) × (left_of strips i <ℤ left_of strips j))))

-- the strips of the cells that so many masks cover, where mask m covers the cells m
pub record AreStripsOf (cells : ℕ → ℤ → ℤ → Type 0) (masks : ℕ) (strips : List Placed) : Type 0 where
  pub on_masks : (i : ℕ) → IsStrip strips i → mask_of strips i < masks
  pub nonempty : (i : ℕ) → IsStrip strips i → IsNonempty (strip_at strips i).area
  pub same_cells : (m : ℕ) (x y : ℤ) → m < masks → cells m x y ↔ covered_by m strips x y
  pub once : (i j : ℕ) → AreOfOneMask strips i j → (x y : ℤ) → Holds (strip_at strips i).area x y → Holds (strip_at strips j).area x y → i ≡ j
  pub whole_runs : (i : ℕ) → IsStrip strips i → (y : ℤ) → Within (bottom_of strips i) (top_of strips i) y
      → IsRun (row_of (covered_by (mask_of strips i) strips) y) (left_of strips i) (right_of strips i)
  pub unstacked : (i j : ℕ) → StandsOn strips i j → (left_of strips i ≡ left_of strips j) → (right_of strips i ≡ right_of strips j) → ⊥
  pub in_order : (i j : ℕ) → i < j → IsStrip strips j → ComesBefore strips i j

-- the rectangles are the strips of what they cover: of some cells, then, whichever these are
pub record AreStrips (strips : List Placed) : Type 0 where
  pub masks : ℕ
  pub strips_are : AreStripsOf (λ m. covered_by m strips) masks strips
