-- Strips of one mask with a number for each, by which pieces are told apart.
use Rattle.std.specs.Prelude.{◌≡◌, ℕ, ◌<◌, ◌≤◌, ◌↔◌, List, length, slice_index, sum, Bool, MatchBool}
use Rattle.rt_strips.specs.declared.contact.Seam.{Seam}
use Rattle.rt_strips.specs.Placed.{Placed}
use Rattle.rt_strips.specs.Standing.{IsStrip}
use Rattle.rt_family.specs.Strips.{StandsOn}
use Rattle.rt_pieces.specs.declared.numbers.Ends.{Ends}
use Rattle.rt_pieces.specs.Members.{IsOf, box_of, AreOfOnePiece}

-- each of so many numbers is its place
pub record AreOwnNumbers (count : ℕ) (numbers : List ℕ) : Type 0 where
  pub counted : length numbers ≡ count
  pub own : (i : ℕ) → i < count → slice_index numbers i ≡ i

-- strips of mask m have one number exactly where they are of one piece
pub record AreNumbersOfPieces (m : ℕ) (strips : List Placed) (numbers : List ℕ) : Type 0 where
  pub counted : length numbers ≡ length strips
  pub same : (i j : ℕ) → IsOf m strips i → IsOf m strips j → (slice_index numbers i ≡ slice_index numbers j) ↔ AreOfOnePiece m strips i j

-- each strip of mask m has the number of a strip of its piece, and no number is above its place
pub record AreLinks (m : ℕ) (strips : List Placed) (links : List ℕ) : Type 0 where
  pub counted : length links ≡ length strips
  pub down : (i : ℕ) → i < length strips → slice_index links i ≤ i
  pub linked : (i : ℕ) → IsOf m strips i → AreOfOnePiece m strips i (slice_index links i)

-- strip j of mask m stands on strip i of it
abbrev pub Stands : ℕ → List Placed → ℕ → ℕ → Type 0
Stands m strips = StandsOn (IsOf m strips) (box_of strips)

-- of two strips of mask m one of which stands on the other at the seam, both have one number
pub record IsJoined (m : ℕ) (strips : List Placed) (links : List ℕ) (seam : Seam) : Type 0 where
  pub joined : Stands m strips seam.below seam.above → slice_index links seam.below ≡ slice_index links seam.above

-- both ends are strips of the piece of the seam's strips, and the lower one is at most the numbers of these
pub record AreEnds (m : ℕ) (strips : List Placed) (links : List ℕ) (seam : Seam) (ends : Ends) : Type 0 where
  pub high_there : IsStrip strips ends.high
  pub low_from_below : AreOfOnePiece m strips seam.below ends.low
  pub low_from_above : AreOfOnePiece m strips seam.above ends.low
  pub low_from_high : AreOfOnePiece m strips ends.high ends.low
  pub at_most_below : ends.low ≤ slice_index links seam.below
  pub at_most_above : ends.low ≤ slice_index links seam.above

-- the numbers changed, so that their sum fell, or they are as before
abbrev pub Lowered : Bool → List ℕ → List ℕ → Type 0
Lowered changed before after = MatchBool changed (sum after < sum before) (after ≡ before)
