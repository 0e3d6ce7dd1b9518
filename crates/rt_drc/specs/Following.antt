-- Strips that follow one another in a row, and the gap between them.
use Rattle.std.specs.Prelude.{◌≡◌, ℕ, ◌<◌, ℤ, ◌+ℤ◌, ◌≤ℤ◌, ◌<ℤ◌, ◌⊎◌, List}
use Rattle.rt_cells.specs.Line.{Within}
use Rattle.rt_rules.specs.Space.{IsNarrowGap}
use Rattle.rt_base.specs.declared.plane.Cell.{Cell}
use Rattle.rt_strips.specs.Placed.{Placed, strip_at, left_of, right_of}
use Rattle.rt_strips.specs.Standing.{IsStrip}
use Rattle.rt_family.specs.Strips.{ShareRow}
use Rattle.rt_drc.specs.declared.rows.Witness.{Witness}
use Rattle.rt_pieces.specs.Members.{IsOf, box_of}

-- the strip is of mask m, has the cell's row, and begins at the cell's column or after it
pub record BeginsAfter (m : ℕ) (cell : Cell) (p : Placed) : Type 0 where
  pub mask : p.mask ≡ m
  pub row : Within p.area.bottom p.area.top cell.y
  pub after : cell.x ≤ℤ p.area.left

-- the strip is such a strip, and begins before the known one
pub record ComesSooner (m : ℕ) (cell : Cell) (p known : Placed) : Type 0 where
  pub begins : BeginsAfter m cell p
  pub sooner : p.area.left <ℤ known.area.left

-- where the strip is such a strip, it doesn't begin before the known one
pub record ComesNoSooner (m : ℕ) (cell : Cell) (p known : Placed) : Type 0 where
  pub no_sooner : BeginsAfter m cell p → known.area.left ≤ℤ p.area.left

-- strip k is such a strip
pub record IsAfter (m : ℕ) (cell : Cell) (strips : List Placed) (k : ℕ) : Type 0 where
  pub strip : IsStrip strips k
  pub begins : BeginsAfter m cell (strip_at strips k)

-- strip k is such a strip, and of those before number n none begins before it
pub record IsNextBefore (m : ℕ) (cell : Cell) (strips : List Placed) (n k : ℕ) : Type 0 where
  pub after : IsAfter m cell strips k
  pub least : (i : ℕ) → i < n → IsAfter m cell strips i → left_of strips k ≤ℤ left_of strips i

-- strip j follows strip i of mask m in a row of both, with fewer than s columns between them
pub record Follows (m : ℕ) (s : ℤ) (strips : List Placed) (i j : ℕ) : Type 0 where
  pub first : IsOf m strips i
  pub second : IsOf m strips j
  pub rows : ShareRow (box_of strips i) (box_of strips j)
  pub beyond : right_of strips i <ℤ left_of strips j
  pub near : left_of strips j <ℤ (right_of strips i +ℤ s)

-- one of the two follows the other
abbrev pub AreNeighbours : ℕ → ℤ → List Placed → ℕ → ℕ → Type 0
AreNeighbours m s strips i j = Follows m s strips i j ⊎ Follows m s strips j i

-- the witness shows a gap of a row of fewer than s cells
abbrev pub ShowsGap : ℤ → (ℤ → ℤ → Type 0) → Witness → Type 0
ShowsGap s cells witness = IsNarrowGap s cells witness.p.x witness.p.y witness.q.x witness.q.y witness.found
