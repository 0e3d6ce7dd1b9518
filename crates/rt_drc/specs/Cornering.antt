-- Strips that meet at a corner.
use Rattle.std.specs.Prelude.{◌≡◌, ℕ, ℤ, pos, ◌-ℤ◌, ◌⊎◌, List}
use Rattle.std.specs.Int.{int_max}
use Rattle.rt_cells.specs.Line.{nearest_place}
use Rattle.rt_cells.specs.Cells.{MeetAtCornerAlone}
use Rattle.rt_cells.specs.Rectangles.{Rectangle, columns_between, rows_between}
use Rattle.rt_rules.specs.Space.{AreNearPieces}
use Rattle.rt_strips.specs.Placed.{Placed}
use Rattle.rt_drc.specs.declared.rows.Witness.{Witness}
use Rattle.rt_pieces.specs.Members.{IsOf, box_of}

-- the witness has these cells and this number
pub record IsShownAt (x y u v number : ℤ) (witness : Witness) : Type 0 where
  pub p_column : witness.p.x ≡ x
  pub p_row : witness.p.y ≡ y
  pub q_column : witness.q.x ≡ u
  pub q_row : witness.q.y ≡ v
  pub number_found : witness.found ≡ number

-- the lower rectangle ends at the column at which the upper one begins, and the witness has their cells at that corner
pub record IsCornerRight (lower upper : Rectangle) (witness : Witness) : Type 0 where
  pub meet : lower.right ≡ upper.left
  pub shown : IsShownAt (lower.right -ℤ pos 1) (lower.top -ℤ pos 1) upper.left upper.bottom (pos 0) witness

-- the upper rectangle ends at the column at which the lower one begins, and the witness has their cells at that corner
pub record IsCornerLeft (lower upper : Rectangle) (witness : Witness) : Type 0 where
  pub meet : upper.right ≡ lower.left
  pub shown : IsShownAt lower.left (lower.top -ℤ pos 1) (upper.right -ℤ pos 1) upper.bottom (pos 0) witness

-- the witness has the cells of the corner at which the lower and the upper rectangle meet
abbrev pub IsCornerOf : Rectangle → Rectangle → Witness → Type 0
IsCornerOf lower upper witness = IsCornerRight lower upper witness ⊎ IsCornerLeft lower upper witness

-- neither of the two ends at the column at which the other one begins
pub record MeetAtNoCorner (lower upper : Rectangle) : Type 0 where
  pub right : ¬ (lower.right ≡ upper.left)
  pub left : ¬ (upper.right ≡ lower.left)

-- strips i and j of mask m, of which one begins in the row in which the other ends, meet at no corner
pub record HasNoCorner (m : ℕ) (strips : List Placed) (i j : ℕ) : Type 0 where
  pub none : IsOf m strips i → MeetAtNoCorner (box_of strips i) (box_of strips j)

-- no two cells meet at a corner alone
abbrev pub HasNoCornerContact : (ℤ → ℤ → Type 0) → Type 0
HasNoCornerContact cells = (x y u v : ℤ) → ¬ MeetAtCornerAlone cells x y u v

-- the witness shows cells that meet at a corner alone
pub record ShowsCorner (cells : ℤ → ℤ → Type 0) (witness : Witness) : Type 0 where
  pub contact : MeetAtCornerAlone cells witness.p.x witness.p.y witness.q.x witness.q.y
  pub none_found : witness.found ≡ pos 0

-- the witness has the nearest cells of two rectangles, and the wider of the two gaps between them
abbrev pub HasNearestCells : Rectangle → Rectangle → Witness → Type 0
HasNearestCells a b witness = IsShownAt (nearest_place a.left a.right b.left) (nearest_place a.bottom a.top b.bottom)
    (nearest_place b.left b.right a.left) (nearest_place b.bottom b.top a.bottom) (int_max (columns_between a b) (rows_between a b)) witness

-- the witness shows cells of different pieces that are less than s apart
abbrev pub ShowsNearPieces : ℤ → (ℤ → ℤ → Type 0) → Witness → Type 0
ShowsNearPieces s cells witness = AreNearPieces s cells witness.p.x witness.p.y witness.q.x witness.q.y witness.found
