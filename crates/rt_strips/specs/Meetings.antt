-- Rows in which strips end or begin, in order, and where two of one mask meet.
use Rattle.std.specs.Prelude.{◌≡◌, ℕ, ◌<◌, ◌≤◌, ℤ, ◌≤ℤ◌, ◌<ℤ◌, List, [], ◌∷◌, ◌++◌, All, AllPairs, Contains, length, slice_index_or}
use Rattle.rt_strips.specs.declared.meeting.Edge.{Edge}
use Rattle.rt_strips.specs.declared.meeting.Meeting.{Meeting}
use Rattle.rt_strips.specs.declared.meeting.Side.{Side}
use Rattle.rt_strips.specs.declared.meeting.Side.TheVariants.{Top, Bottom}
use Rattle.rt_strips.specs.Placed.{Placed, strip_at}
use Rattle.rt_strips.specs.Seams.{IsSeam}

-- the height of a rectangle's top or bottom
abbrev pub height_of : Side → Placed → ℤ
height_of Top p = p.area.top
height_of Bottom p = p.area.bottom

-- the top or the bottom of the rectangle of that number
abbrev pub edge_of : Side → Placed → ℕ → Edge
edge_of side p i = record { mask = p.mask; height = height_of side p; left = p.area.left; right = p.area.right; strip = i }

-- the edges are the tops, or the bottoms, of the strips, by their numbers
pub record AreEdgesOf (side : Side) (strips : List Placed) (edges : List Edge) : Type 0 where
  pub count : length edges ≡ length strips
  pub each : (i : ℕ) (d : Edge) → i < length strips → slice_index_or edges i d ≡ edge_of side (strip_at strips i) i

-- the one edge comes before the other: by mask, then height, and then a column lies between them
pub data IsEdgeBefore (a b : Edge) : Type 0 where
  on_lower_mask : a.mask < b.mask → IsEdgeBefore a b
  in_lower_row : a.mask ≡ b.mask → a.height <ℤ b.height → IsEdgeBefore a b
  on_the_left : a.mask ≡ b.mask → a.height ≡ b.height → a.right <ℤ b.left → IsEdgeBefore a b

-- the one edge ends before the other or with it: by mask, then height, then right end
pub data EndsNoLater (a b : Edge) : Type 0 where
  ends_on_lower_mask : a.mask < b.mask → EndsNoLater a b
  ends_in_lower_row : a.mask ≡ b.mask → a.height <ℤ b.height → EndsNoLater a b
  ends_no_further : a.mask ≡ b.mask → a.height ≡ b.height → a.right ≤ℤ b.right → EndsNoLater a b

-- the two edges are of one mask and height, and no column lies between them
pub record Meet (a b : Edge) : Type 0 where
  pub one_mask : a.mask ≡ b.mask
  pub one_row : a.height ≡ b.height
  pub first : a.left ≤ℤ b.right
  pub second : b.left ≤ℤ a.right

-- the meeting of two edges
abbrev pub meeting_of : Edge → Edge → Meeting
meeting_of a b = record { below = a.strip; above = b.strip }

-- an edge of the first list and one of the second meet there
pub record IsMeeting (ends begins : List Edge) (meeting : Meeting) : Type 0 where
  pub lower : Edge
  pub upper : Edge
  pub ends_there : Contains ends lower
  pub begins_there : Contains begins upper
  pub meet : Meet lower upper
  pub meeting_is : meeting ≡ meeting_of lower upper

-- the second numbers of meetings don't fall
abbrev pub GoUpwards : List Meeting → Type 0
GoUpwards meetings = AllPairs (λ (m n : Meeting). m.above ≤ n.above) meetings

-- all meetings of edges of the first list with edges of the second
pub record AreMeetings (ends begins : List Edge) (meetings : List Meeting) : Type 0 where
  pub each : All (IsMeeting ends begins) meetings
  pub every : (a b : Edge) → Contains ends a → Contains begins b → Meet a b → Contains meetings (meeting_of a b)
  pub upwards : GoUpwards meetings

-- the meeting of two edges is added, if they meet
pub data IsNoted (a b : Edge) (before after : List Meeting) : Type 0 where
  noted : Meet a b → after ≡ before ++ meeting_of a b ∷ [] → IsNoted a b before after
  passed_over : (¬ Meet a b) → after ≡ before → IsNoted a b before after

-- where the strips' tops and bottoms meet: at their seams
pub record AreMeetingsOf (strips : List Placed) (meetings : List Meeting) : Type 0 where
  pub each : (m : Meeting) → Contains meetings m → IsSeam strips m.below m.above
  pub every : (i j : ℕ) → IsSeam strips i j → Contains meetings (record { below = i; above = j })
  pub upwards : GoUpwards meetings
