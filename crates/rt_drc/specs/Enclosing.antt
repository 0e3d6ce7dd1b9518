-- Counted strips grown on all sides, and the cells of them that a mask doesn't cover.
use Rattle.std.specs.Prelude.{◌≡◌, ℕ, ◌-◌, ◌<◌, ◌^◌, ℤ, negsuc, ◌+ℤ◌, ◌-ℤ◌, ◌≤ℤ◌, ◌<ℤ◌, ◌⊎◌, List, Contains}
use Rattle.std.specs.Int.{int_max}
use Rattle.rt_cells.specs.Line.{between, nearest_place}
use Rattle.rt_cells.specs.Rectangles.{Rectangle, Holds}
use Rattle.rt_rules.specs.Cuts.{EnclosureBreach}
use Rattle.rt_base.specs.declared.plane.Cell.{Cell}
use Rattle.rt_base.specs.declared.plane.Rect.{Rect}
use Rattle.rt_base.specs.Plane.{area}
use Rattle.rt_strips.specs.Placed.{Placed}
use Rattle.rt_cover.specs.Covering.{IsWhole, IsMissing}
use Rattle.rt_cuts.specs.Cuts.{grown}
use Rattle.rt_drc.specs.declared.counting.Counted.{Counted}
use Rattle.rt_drc.specs.declared.rows.Witness.{Witness}
use Rattle.rt_pieces.specs.Members.{box_of}
use Rattle.rt_drc.specs.Counting.{IsCounted}
use Rattle.rt_drc.specs.Cornering.{IsShownAt}
use Rattle.rt_drc.specs.Nearness.{farthest}

-- the least place at which a side of a rectangle may lie
abbrev pub lowest : ℤ
lowest = negsuc (2 ^ 62 - 2)

-- the rectangle, grown by the number, has its sides where sides may lie
pub record HasRoom (number : ℤ) (r : Rectangle) : Type 0 where
  pub left : lowest ≤ℤ (r.left -ℤ number)
  pub right : (r.right +ℤ number) ≤ℤ farthest
  pub bottom : lowest ≤ℤ (r.bottom -ℤ number)
  pub top : (r.top +ℤ number) ≤ℤ farthest

-- no rectangle has a cell in the column, or the row, of that number
abbrev pub IsOutside : ℤ → Type 0
IsOutside place = (place <ℤ lowest) ⊎ (farthest ≤ℤ place)

-- the cell lies in the rectangle grown by the number, where no rectangle has a cell
pub record IsBeyond (number : ℤ) (r : Rectangle) (cell : Cell) : Type 0 where
  pub inside : Holds (grown number r) cell.x cell.y
  pub outside : IsOutside cell.x ⊎ IsOutside cell.y

-- the witness has the cell of the rectangle that is nearest to its second cell, and the columns or the rows between them, whichever are more
pub record IsSeenFrom (r : Rectangle) (witness : Witness) : Type 0 where
  pub shown : IsShownAt (nearest_place r.left r.right witness.q.x) (nearest_place r.bottom r.top witness.q.y) witness.q.x witness.q.y
      (int_max (between (nearest_place r.left r.right witness.q.x) witness.q.x) (between (nearest_place r.bottom r.top witness.q.y) witness.q.y)) witness

-- the rectangle was grown by the number
pub record IsGrownRect (number : ℤ) (at : Rect) : Type 0 where
  pub core : Rect
  pub core_grown : area at ≡ grown number (area core)

-- each counted strip, grown by the number, has its sides where sides may lie
pub record HaveRoom (counted : Counted) (strips : List Placed) (number : ℤ) : Type 0 where
  pub room : (i : ℕ) → IsCounted counted strips i → HasRoom number (box_of strips i)

-- the witness is seen from the rectangle, and its second cell lies beyond
pub record IsSeenBeyond (number : ℤ) (r : Rectangle) (witness : Witness) : Type 0 where
  pub beyond : IsBeyond number r witness.q
  pub seen : IsSeenFrom r witness

-- the witness is so seen from a counted strip
pub record ShowsBeyond (counted : Counted) (strips : List Placed) (number : ℤ) (witness : Witness) : Type 0 where
  pub strip : ℕ
  pub is_counted : IsCounted counted strips strip
  pub beyond : IsSeenBeyond number (box_of strips strip) witness

-- the rectangle is that of a counted strip before number n, grown by the number
pub record IsGrownOf (counted : Counted) (strips : List Placed) (number : ℤ) (n : ℕ) (at : Rect) : Type 0 where
  pub strip : ℕ
  pub before : strip < n
  pub is_counted : IsCounted counted strips strip
  pub core : Rect
  pub core_is : area core ≡ box_of strips strip
  pub at_is : area at ≡ grown number (box_of strips strip)

-- a rectangle of the list is that of strip i, grown by the number
pub record HasGrown (strips : List Placed) (number : ℤ) (areas : List Rect) (i : ℕ) : Type 0 where
  pub at : Rect
  pub listed : Contains areas at
  pub at_is : area at ≡ grown number (box_of strips i)

-- the rectangles are those of the counted strips before number n, grown by the number
pub record AreGrownOf (counted : Counted) (strips : List Placed) (number : ℤ) (n : ℕ) (areas : List Rect) : Type 0 where
  pub each : (at : Rect) → Contains areas at → IsGrownOf counted strips number n at
  pub every : (i : ℕ) → i < n → IsCounted counted strips i → HasGrown strips number areas i

-- the cells cover each counted strip, grown by the number
pub record AreWhole (counted : Counted) (strips : List Placed) (number : ℤ) (cells : ℤ → ℤ → Type 0) : Type 0 where
  pub whole : (i : ℕ) → IsCounted counted strips i → IsWhole cells (grown number (box_of strips i))

-- the witness is seen from a counted strip, and its second cell lies in the strip grown by the number and is bare
pub record ShowsBare (counted : Counted) (strips : List Placed) (number : ℤ) (cells : ℤ → ℤ → Type 0) (witness : Witness) : Type 0 where
  pub strip : ℕ
  pub is_counted : IsCounted counted strips strip
  pub missing : IsMissing cells (grown number (box_of strips strip)) witness.q
  pub seen : IsSeenFrom (box_of strips strip) witness

-- the witness shows that the cells, grown by the number, don't lie in the mask
abbrev pub ShowsEnclosure : ℤ → (cells mask : ℤ → ℤ → Type 0) → Witness → Type 0
ShowsEnclosure number cells mask witness = EnclosureBreach number cells mask witness.p.x witness.p.y witness.q.x witness.q.y witness.found
