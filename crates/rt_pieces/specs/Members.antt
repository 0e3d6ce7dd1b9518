-- The strips of one mask as a family, by their numbers in the list of the strips of all masks.
use Rattle.std.specs.Prelude.{◌≡◌, ℕ, ℤ, List, map}
use Rattle.rt_cells.specs.Rectangles.{Rectangle}
use Rattle.rt_strips.specs.declared.listing.Strip.{Strip}
use Rattle.rt_strips.specs.Placed.{Placed, placed, strip_at, mask_of}
use Rattle.rt_strips.specs.Standing.{IsStrip}
use Rattle.rt_family.specs.Strips.{CoveredBy, IsFamily, AreConnected}

-- number i is that of a strip of mask m
pub record IsOf (m : ℕ) (strips : List Placed) (i : ℕ) : Type 0 where
  pub strip : IsStrip strips i
  pub mask : mask_of strips i ≡ m

-- the rectangle of a strip
abbrev pub box_of : List Placed → ℕ → Rectangle
box_of strips i = (strip_at strips i).area

-- the two strips are of one piece of mask m
abbrev pub AreOfOnePiece : ℕ → List Placed → ℕ → ℕ → Type 0
AreOfOnePiece m strips = AreConnected (IsOf m strips) (box_of strips)

-- between two strips of mask m that have a common row lies a column
abbrev pub AreOfFamily : ℕ → List Strip → Type 0
AreOfFamily m strips = IsFamily (IsOf m (map placed strips)) (box_of (map placed strips))

-- a strip of mask m holds the cell
abbrev pub held_by : ℕ → List Strip → ℤ → ℤ → Type 0
held_by m strips = CoveredBy (IsOf m (map placed strips)) (box_of (map placed strips))
