-- Which lower mask each strip of a cut lies in.
use Rattle.std.specs.Prelude.{◌≡◌, ℕ, ℤ, List, length, slice_index}
use Rattle.rt_cells.specs.Rectangles.{Holds}
use Rattle.rt_tech.specs.declared.table.Tech.{Tech}
use Rattle.rt_strips.specs.Placed.{Placed, strip_at, mask_of}
use Rattle.rt_strips.specs.Standing.{IsStrip}
use Rattle.rt_view.specs.Shapes.{IsCut, LiesInOne}

-- for each strip of a cut the number of the one lower mask that it lies in, and 0 for every other strip
pub record AreLowersOf (tech : Tech) (cells : ℕ → ℤ → ℤ → Type 0) (strips : List Placed) (lowers : List ℕ) : Type 0 where
  pub counted : length lowers ≡ length strips
  pub of_cuts : (i : ℕ) → IsStrip strips i → IsCut tech (mask_of strips i) → (x y : ℤ) → Holds (strip_at strips i).area x y
      → LiesInOne tech cells (mask_of strips i) (slice_index lowers i) x y
  pub of_others : (i : ℕ) → IsStrip strips i → ¬ IsCut tech (mask_of strips i) → slice_index lowers i ≡ 0
