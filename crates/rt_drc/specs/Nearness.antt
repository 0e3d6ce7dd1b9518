-- Strips that are near each other, and the bars that tell it.
use Rattle.std.specs.Prelude.{◌≡◌, ℕ, ◌<◌, ◌-◌, ◌^◌, ℤ, pos, ◌+ℤ◌, ◌<ℤ◌, List, Contains, slice_index}
use Rattle.std.specs.Int.{int_min}
use Rattle.rt_cells.specs.Rectangles.{Rectangle}
use Rattle.rt_base.specs.Plane.{area}
use Rattle.rt_sweep.specs.declared.bar.Bar.{Bar}
use Rattle.rt_strips.specs.Placed.{Placed}
use Rattle.rt_drc.specs.declared.reach.Reach.{Reach}
use Rattle.rt_pieces.specs.Members.{box_of}

-- the farthest that a side of a rectangle may lie
abbrev pub farthest : ℤ
farthest = pos (2 ^ 62 - 1)

-- the rectangle grown by the reach to the right and upwards, as far as a side may lie
abbrev pub grown : Reach → Rectangle → Rectangle
grown reach r = record { left = r.left; right = int_min (r.right +ℤ reach.across) farthest; bottom = r.bottom; top = int_min (r.top +ℤ reach.upwards) farthest }

-- two nonempty rectangles have fewer columns and fewer rows between them than the reach; a reach of 0 asks for a common one
pub record AreNear (reach : Reach) (a b : Rectangle) : Type 0 where
  pub left : a.left <ℤ (b.right +ℤ reach.across)
  pub right : b.left <ℤ (a.right +ℤ reach.across)
  pub below : a.bottom <ℤ (b.top +ℤ reach.upwards)
  pub above : b.bottom <ℤ (a.top +ℤ reach.upwards)

-- the bar is that of strip i: its rectangle, grown
pub record IsBarOf (reach : Reach) (strips : List Placed) (i : ℕ) (bar : Bar) : Type 0 where
  pub number : bar.tag ≡ i
  pub at : area bar.at ≡ grown reach (box_of strips i)

-- a bar that is among the bars and is that of strip i
pub record HasBar (reach : Reach) (strips : List Placed) (bars : List Bar) (i : ℕ) : Type 0 where
  pub bar : Bar
  pub listed : Contains bars bar
  pub of_strip : IsBarOf reach strips i bar

-- the bar is that of one of some strips, before number n
pub record IsBarBefore (member : ℕ → Type 0) (reach : Reach) (strips : List Placed) (n : ℕ) (bar : Bar) : Type 0 where
  pub before : bar.tag < n
  pub strip : member bar.tag
  pub of_strip : IsBarOf reach strips bar.tag bar

-- the bars are those of some strips before number n
pub record AreBarsBefore (member : ℕ → Type 0) (reach : Reach) (strips : List Placed) (n : ℕ) (bars : List Bar) : Type 0 where
  pub each : (bar : Bar) → Contains bars bar → IsBarBefore member reach strips n bar
  pub every : (i : ℕ) → i < n → member i → HasBar reach strips bars i

-- some strips that are near are of one group
pub record NearAreGrouped (member : ℕ → Type 0) (reach : Reach) (strips : List Placed) (groups : List ℕ) : Type 0 where
  pub grouped : (i j : ℕ) → member i → member j → AreNear reach (box_of strips i) (box_of strips j)
      → slice_index groups i ≡ slice_index groups j

-- strips i and j, two of some strips, are near and of different groups
pub record AreNearStrangers (member : ℕ → Type 0) (reach : Reach) (strips : List Placed) (groups : List ℕ) (i j : ℕ) : Type 0 where
  pub first : member i
  pub second : member j
  pub near : AreNear reach (box_of strips i) (box_of strips j)
  pub different : ¬ (slice_index groups i ≡ slice_index groups j)
