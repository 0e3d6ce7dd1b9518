-- Which strips are climbed from which, as a table of bits tells it.
use Rattle.std.specs.Prelude.{◌≡◌, ◌≢◌, ℕ, ◌+◌, ◌*◌, ◌/◌, ◌%◌, ◌<◌, ◌≤◌, ◌==◌, ◌⊎◌, Bool, List, length, slice_index, MatchBool, bit_or}
use Rattle.std.specs.Int.{bit_at}
use Rattle.rt_strips.specs.declared.meeting.Meeting.{Meeting}
use Rattle.rt_strips.specs.Placed.{Placed}
use Rattle.rt_strips.specs.Standing.{StandsOn, IsClimbed}

-- the bit for strip `from` in the row of strip `to`, where each row has so many words of 64 bits
abbrev pub bit_of : ℕ → List ℕ → ℕ → ℕ → ℕ
bit_of width words from to = bit_at (slice_index words (to * width + from / 64)) (from % 64)

-- it is set
abbrev pub is_set : ℕ → List ℕ → ℕ → ℕ → Bool
is_set width words from to = bit_of width words from to == 1

-- a table: how many strips there are, and a row of so many words of 64 bits for each
pub record Rows : Type 0 where
  pub count : ℕ
  pub width : ℕ
  pub words : List ℕ

-- whether the table tells that strip `to` is climbed from strip `from`
abbrev pub tells : Rows → ℕ → ℕ → Bool
tells rows from to = is_set rows.width rows.words from to

-- the rows are those of all strips, and have a bit for each
pub record HasRoom (rows : Rows) : Type 0 where
  pub rows_of_all : length rows.words ≡ rows.count * rows.width
  pub wide : rows.count ≤ rows.width * 64

-- the table tells of all strips which are climbed from which
pub record AreClimbsOf (strips : List Placed) (climbs : Rows) : Type 0 where
  pub counted : climbs.count ≡ length strips
  pub exact : (i j : ℕ) → i < length strips → j < length strips → MatchBool (tells climbs i j) (IsClimbed strips i j) (¬ IsClimbed strips i j)

-- so many words from the one place on are joined into those from the other on
pub record IsRowTaken (from to width : ℕ) (before after : List ℕ) : Type 0 where
  pub same_length : length after ≡ length before
  pub within : (k : ℕ) → k < width → slice_index after (to + k) ≡ bit_or (slice_index before (to + k)) (slice_index before (from + k))
  pub outside : (p : ℕ) → (p < to) ⊎ (to + width ≤ p) → slice_index after p ≡ slice_index before p

-- a bit is set
pub record IsSet (width : ℕ) (words : List ℕ) (from to : ℕ) : Type 0 where
  pub set : bit_of width words from to ≡ 1

-- the row of the strip below is joined into that of the strip above, and the bit for the strip below is set there
pub record IsJoined (width below above : ℕ) (before after : List ℕ) : Type 0 where
  pub same_length : length after ≡ length before
  pub kept : (i j : ℕ) → i < width * 64 → IsSet width before i j → IsSet width after i j
  pub others : (i j : ℕ) → i < width * 64 → j ≢ above → IsSet width after i j → IsSet width before i j
  pub taken : (i : ℕ) → i < width * 64 → IsSet width before i below → IsSet width after i above
  pub here : IsSet width after below above
  pub comes_from : (i : ℕ) → i < width * 64 → IsSet width after i above → IsSet width before i above ⊎ (IsSet width before i below ⊎ (i ≡ below))

-- that is done if the upper strip of the meeting stands on the lower one
pub data IsJoinedFor (strips : List Placed) (width : ℕ) (meeting : Meeting) (before after : List ℕ) : Type 0 where
  stands : StandsOn strips meeting.below meeting.above → IsJoined width meeting.below meeting.above before after → IsJoinedFor strips width meeting before after
  stands_not : (¬ StandsOn strips meeting.below meeting.above) → after ≡ before → IsJoinedFor strips width meeting before after

-- the rows of all strips: a bit is set exactly where the strip of the row is climbed from that of the bit
pub record AreRowsOf (strips : List Placed) (width : ℕ) (words : List ℕ) : Type 0 where
  pub rows : length words ≡ length strips * width
  pub exact : (i j : ℕ) → i < length strips → j < length strips → MatchBool (is_set width words i j) (IsClimbed strips i j) (¬ IsClimbed strips i j)
