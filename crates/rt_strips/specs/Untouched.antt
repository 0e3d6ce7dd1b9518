-- Strips that are whole pieces: those that touch no other.
use Rattle.std.specs.Prelude.{◌≡◌, ℕ, ◌<◌, Bool, true, false, ℤ, List, ◌++◌, length, map, slice_index_or, slice_set, All, AllPairs, Contains, MatchBool}
use Rattle.rt_cells.specs.Rectangles.{Rectangle, Holds}
use Rattle.rt_strips.specs.declared.meeting.Meeting.{Meeting}
use Rattle.rt_strips.specs.declared.tally.Tally.{Tally}
use Rattle.rt_strips.specs.Placed.{Placed, strip_at}
use Rattle.rt_strips.specs.Standing.{StandsOn, Touch}
use Rattle.rt_rules.specs.Pieces.{IsPiece}
use Rattle.rt_strips.specs.Tallies.{IsTallyOf}

-- the cell lies in a piece of the cells that is a rectangle
pub record IsInPiece (cells : ℤ → ℤ → Type 0) (x y : ℤ) : Type 0 where
  pub piece : Rectangle
  pub is_piece : IsPiece cells piece
  pub holds : Holds piece x y

-- the strip touches another
pub record IsTouched (strips : List Placed) (i : ℕ) : Type 0 where
  pub other : ℕ
  pub touch : Touch strips i other

-- each strip is marked that touches another, and no other is
pub record AreMarks (strips : List Placed) (marks : List Bool) : Type 0 where
  pub count : length marks ≡ length strips
  pub each : (i : ℕ) → i < length strips → MatchBool (slice_index_or marks i false) (IsTouched strips i) (¬ IsTouched strips i)

-- both strips of the meeting are marked, if the upper one stands on the lower one
pub data AreMarkedFor (strips : List Placed) (meeting : Meeting) (before after : List Bool) : Type 0 where
  both_marked : StandsOn strips meeting.below meeting.above → after ≡ slice_set (slice_set before meeting.below true) meeting.above true
      → AreMarkedFor strips meeting before after
  not_marked : (¬ StandsOn strips meeting.below meeting.above) → after ≡ before → AreMarkedFor strips meeting before after

-- the numbers of those among the first n strips that touch no other, in order
pub record AreUntouched (strips : List Placed) (n : ℕ) (numbers : List ℕ) : Type 0 where
  pub below : All (λ i. i < n) numbers
  pub untouched : All (λ i. ¬ IsTouched strips i) numbers
  pub every : (i : ℕ) → i < n → ¬ IsTouched strips i → Contains numbers i
  pub rising : AllPairs (λ i j. i < j) numbers

-- those are added
pub record AddsUntouched (strips : List Placed) (n most : ℕ) (before after : Tally) : Type 0 where
  pub numbers : List ℕ
  pub are_untouched : AreUntouched strips n numbers
  pub added : (earlier : List Placed) → IsTallyOf most earlier before → IsTallyOf most (earlier ++ map (strip_at strips) numbers) after
