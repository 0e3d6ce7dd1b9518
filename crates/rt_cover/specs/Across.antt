-- The columns of one slab: how far the bars of strips reach there, and which of the bars they leave bare. A bar is that of a strip where its count
-- isn't below a count.
use Rattle.std.specs.Prelude.{◌≡◌, ℕ, ◌+◌, ◌<◌, ◌≤◌, ◌^◌, ◌-◌, ℤ, negsuc, ◌≤ℤ◌, ◌<ℤ◌, ◌⊎◌, List, length, Contains, slice_index_or, slice_set, Option, None, Some}
use Rattle.std.specs.Int.{int_max}
use Rattle.rt_cells.specs.Line.{Within}
use Rattle.rt_base.specs.declared.plane.Cell.{Cell}
use Rattle.rt_sweep.specs.declared.bar.Bar.{Bar}
use Rattle.rt_cover.specs.Covering.{found_at}

-- the bar of a strip has the column
pub record IsColumnOf (bars : List Bar) (count : ℕ) (x : ℤ) : Type 0 where
  pub bar : Bar
  pub listed : Contains bars bar
  pub tagged : count ≤ bar.tag
  pub within : Within bar.at.x1 bar.at.x2 x

-- at the right end of each strip's bar none of them goes on
pub record EndRuns (bars : List Bar) (count : ℕ) : Type 0 where
  pub ends : (bar : Bar) → Contains bars bar → count ≤ bar.tag → ¬ IsColumnOf bars count bar.at.x2

-- the column is the right end of a strip's bar that stands before a place
pub record IsEndOf (bars : List Bar) (count next : ℕ) (right : ℤ) : Type 0 where
  pub place : ℕ
  pub before : place < next
  pub tagged : (d : Bar) → count ≤ (slice_index_or bars place d).tag
  pub at : (d : Bar) → (slice_index_or bars place d).at.x2 ≡ right

-- the bars before a place begin at a column or to the left of it, and those of strips reach to the right end, which is that of
-- one of them; where there is none it is the least number of 64 bits
pub record IsReachUpTo (bars : List Bar) (count : ℕ) (left : ℤ) (next : ℕ) (right : ℤ) : Type 0 where
  pub inside : next ≤ length bars
  pub begun : (k : ℕ) (d : Bar) → k < next → (slice_index_or bars k d).at.x1 ≤ℤ left
  pub most : (k : ℕ) (d : Bar) → k < next → count ≤ (slice_index_or bars k d).tag → (slice_index_or bars k d).at.x2 ≤ℤ right
  pub of_one : IsEndOf bars count next right ⊎ (right ≡ negsuc (2 ^ 63 - 1))

-- and the bar at that place begins to the right of the column
pub record IsReachAt (bars : List Bar) (count : ℕ) (left : ℤ) (next : ℕ) (right : ℤ) : Type 0 where
  pub up_to : IsReachUpTo bars count left next right
  pub to_come : (d : Bar) → next < length bars → left <ℤ (slice_index_or bars next d).at.x1

-- the place is the next one, and the right end goes on to that of the bar, if it is that of a strip and reaches further
pub record Takes (bar : Bar) (count next : ℕ) (right : ℤ) (next' : ℕ) (right' : ℤ) : Type 0 where
  pub onward : next' ≡ next + 1
  pub either : ((count ≤ bar.tag) × (right <ℤ bar.at.x2) × (right' ≡ bar.at.x2)) ⊎ ((count ≤ bar.tag → bar.at.x2 ≤ℤ right) × (right' ≡ right))

-- the reach ends before the bar does, and the first column of the bar that it leaves bare is noted for the bar's tag, in the row
pub record NotesCell (bar : Bar) (right row : ℤ) (before after : List (Option Cell)) : Type 0 where
  pub there : bar.tag < length before
  pub short : right <ℤ bar.at.x2
  pub cell : Cell
  pub in_column : cell.x ≡ int_max right bar.at.x1
  pub in_row : cell.y ≡ row
  pub after_is : after ≡ slice_set before bar.tag (Some cell)

-- it doesn't, or the tag has no place, and nothing is noted
pub record NotesNone (bar : Bar) (right : ℤ) (before after : List (Option Cell)) : Type 0 where
  pub reached : bar.tag < length before → bar.at.x2 ≤ℤ right
  pub same : after ≡ before

-- a cell is noted for the bar, where the reach leaves one bare
abbrev pub IsNoted : Bar → ℤ → ℤ → List (Option Cell) → List (Option Cell) → Type 0
IsNoted bar right row before after = NotesCell bar right row before after ⊎ NotesNone bar right before after

-- the cell lies in the row, in a column of a bar with tag t that no bar of a strip has
pub record IsBare (bars : List Bar) (count t : ℕ) (row : ℤ) (p : Cell) : Type 0 where
  pub bar : Bar
  pub listed : Contains bars bar
  pub numbered : bar.tag ≡ t
  pub column : Within bar.at.x1 bar.at.x2 p.x
  pub in_row : p.y ≡ row
  pub bare : ¬ IsColumnOf bars count p.x

-- bars of strips have all columns of the bar
pub record HasColumns (bars : List Bar) (count : ℕ) (bar : Bar) : Type 0 where
  pub columns : (x : ℤ) → Within bar.at.x1 bar.at.x2 x → IsColumnOf bars count x

-- of the first n bars, those that have no cell noted are covered by bars of strips; what is noted anew is bare, and nothing is dropped
pub record AreLookedAt (bars : List Bar) (count : ℕ) (row : ℤ) (n : ℕ) (before after : List (Option Cell)) : Type 0 where
  pub counted : length after ≡ length before
  pub noted : (t : ℕ) (p : Cell) → t < length before → found_at after t ≡ Some p → (found_at before t ≡ Some p) ⊎ IsBare bars count t row p
  pub kept : (t : ℕ) → found_at after t ≡ None → found_at before t ≡ None
  pub whole : (k : ℕ) (d : Bar) → k < n → (slice_index_or bars k d).tag < length before → found_at after (slice_index_or bars k d).tag ≡ None
      → HasColumns bars count (slice_index_or bars k d)
