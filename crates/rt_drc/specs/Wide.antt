-- Where strips of a mask are wide enough along rows, and share enough with those that stand on them; what shows that they don't.
use Rattle.std.specs.Prelude.{◌≡◌, ℕ, ℤ, pos, ◌-ℤ◌, ◌≤ℤ◌, ◌<ℤ◌, List}
use Rattle.std.specs.Int.{int_max, int_min}
use Rattle.rt_cells.specs.Rectangles.{Rectangle}
use Rattle.rt_strips.specs.Placed.{Placed, strip_at}
use Rattle.rt_strips.specs.Standing.{IsStrip, StandsOn}
use Rattle.rt_drc.specs.declared.rows.Witness.{Witness}

-- the witness has these cells and this number
pub record IsShownAt (x y u v number : ℤ) (witness : Witness) : Type 0 where
  pub p_column : witness.p.x ≡ x
  pub p_row : witness.p.y ≡ y
  pub q_column : witness.q.x ≡ u
  pub q_row : witness.q.y ≡ v
  pub number_found : witness.found ≡ number

-- the first column that two rectangles have in common, and the one after the last
abbrev pub common_left : Rectangle → Rectangle → ℤ
common_left a b = int_max a.left b.left

abbrev pub common_right : Rectangle → Rectangle → ℤ
common_right a b = int_min a.right b.right

-- the strip has at least w columns if it is of mask m
pub record IsWideOn (m : ℕ) (w : ℤ) (strip : Placed) : Type 0 where
  pub wide : strip.mask ≡ m → w ≤ℤ (strip.area.right -ℤ strip.area.left)

-- the strip is of mask m and has fewer than w columns, and the witness has the ends of its lowest row
pub record IsNarrowOn (m : ℕ) (w : ℤ) (strip : Placed) (witness : Witness) : Type 0 where
  pub on_mask : strip.mask ≡ m
  pub short : (strip.area.right -ℤ strip.area.left) <ℤ w
  pub shown : IsShownAt strip.area.left strip.area.bottom (strip.area.right -ℤ pos 1) strip.area.bottom (strip.area.right -ℤ strip.area.left) witness

-- the two have at least w columns in common if they have one and the lower one is of mask m
pub record ShareEnoughOn (m : ℕ) (w : ℤ) (below above : Placed) : Type 0 where
  pub enough : below.mask ≡ m → common_left below.area above.area <ℤ common_right below.area above.area
      → w ≤ℤ (common_right below.area above.area -ℤ common_left below.area above.area)

-- the lower one is of mask m, the two have columns in common but fewer than w, and the witness has their ends in the last row of the lower one
pub record ShareTooLittleOn (m : ℕ) (w : ℤ) (below above : Placed) (witness : Witness) : Type 0 where
  pub on_mask : below.mask ≡ m
  pub common : common_left below.area above.area <ℤ common_right below.area above.area
  pub short : (common_right below.area above.area -ℤ common_left below.area above.area) <ℤ w
  pub shown : IsShownAt (common_left below.area above.area) (below.area.top -ℤ pos 1) (common_right below.area above.area -ℤ pos 1) (below.area.top -ℤ pos 1)
      (common_right below.area above.area -ℤ common_left below.area above.area) witness

-- each strip of mask m has at least w columns
pub record AreWideOn (m : ℕ) (w : ℤ) (strips : List Placed) : Type 0 where
  pub wide : (i : ℕ) → IsStrip strips i → IsWideOn m w (strip_at strips i)

-- each strip of mask m shares at least w columns with each that stands on it
pub record AreSharedOn (m : ℕ) (w : ℤ) (strips : List Placed) : Type 0 where
  pub shared : (i j : ℕ) → StandsOn strips i j → ShareEnoughOn m w (strip_at strips i) (strip_at strips j)
