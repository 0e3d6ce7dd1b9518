-- Strips of a cut as its pieces, and those that aren't squares of a size.
use Rattle.std.specs.Prelude.{◌≡◌, ◌≢◌, ℕ, ℤ, pos, ◌-ℤ◌, ◌⊎◌, List, map}
use Rattle.rt_rules.specs.Cuts.{IsSquare, SizeBreach}
use Rattle.rt_rules.specs.Pieces.{IsPiece}
use Rattle.rt_strips.specs.declared.listing.Strip.{Strip}
use Rattle.rt_strips.specs.Placed.{Placed, placed}
use Rattle.rt_drc.specs.declared.rows.Witness.{Witness}
use Rattle.rt_pieces.specs.Members.{IsOf, box_of, held_by}
use Rattle.rt_drc.specs.Cornering.{IsShownAt}

-- each strip of mask m is a piece of what the mask covers
pub record AreOwnPieces (m : ℕ) (strips : List Strip) : Type 0 where
  pub piece : (i : ℕ) → IsOf m (map placed strips) i → IsPiece (held_by m strips) (box_of (map placed strips) i)

-- the strip is a square of the size if it is of mask m
pub record IsSquareOn (m : ℕ) (size : ℤ) (strip : Placed) : Type 0 where
  pub square : strip.mask ≡ m → IsSquare size strip.area

-- the strip is of mask m and has an extent that isn't the size, and the witness has its corners and that extent
pub record IsOddOn (m : ℕ) (size : ℤ) (strip : Placed) (witness : Witness) : Type 0 where
  pub on_mask : strip.mask ≡ m
  pub extent : (witness.found ≡ strip.area.right -ℤ strip.area.left) ⊎ (witness.found ≡ strip.area.top -ℤ strip.area.bottom)
  pub another : witness.found ≢ size
  pub shown : IsShownAt strip.area.left strip.area.bottom (strip.area.right -ℤ pos 1) (strip.area.top -ℤ pos 1) witness.found witness

-- the witness shows that the cells break the size rule
abbrev pub ShowsSize : ℤ → (ℤ → ℤ → Type 0) → Witness → Type 0
ShowsSize size cells witness = SizeBreach size cells witness.p.x witness.p.y witness.q.x witness.q.y witness.found
