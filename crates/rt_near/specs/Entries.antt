-- Intervals with their numbers, in order along the line.
use Rattle.std.specs.Prelude.{◌≡◌, ◌≢◌, ℕ, ◌<◌, ◌≤◌, ℤ, ◌≤ℤ◌, List, length, AllPairs, slice_index_or, pos}
use Rattle.rt_near.specs.declared.near.Sides.{Sides}
use Rattle.rt_near.specs.declared.entry.Entry.{Entry}
use Rattle.rt_near.specs.Near.{IsInterval, sides_at}

-- the interval with its number and its group's reach
abbrev pub entry_of : Sides → List ℤ → ℕ → Entry
entry_of sides reaches number = record { at = sides; reach = slice_index_or reaches sides.group (pos 0); number = number }

-- stands for an entry that isn't there
abbrev pub no_entry : Entry
no_entry = record { at = record { group = 0; low = pos 0; high = pos 0 }; reach = pos 0; number = 0 }

abbrev pub entry_at : List Entry → ℕ → Entry
entry_at entries k = slice_index_or entries k no_entry

-- the entries are the intervals, by their numbers
pub record AreNumbered (sides : List Sides) (reaches : List ℤ) (entries : List Entry) : Type 0 where
  pub count : length entries ≡ length sides
  pub each : (k : ℕ) → k < length sides → entry_at entries k ≡ entry_of (sides_at sides reaches k) reaches k

-- the first entry is of a lower group, or of the second one's and begins no later
pub record IsUpTo (a b : Entry) : Type 0 where
  pub groups : a.at.group ≤ b.at.group
  pub lows : a.at.group ≡ b.at.group → a.at.low ≤ℤ b.at.low

-- the entries are in order of group, then of their first places
pub record AreInOrder (entries : List Entry) : Type 0 where
  pub in_order : AllPairs IsUpTo entries

-- each has a place
pub record AreIntervals (entries : List Entry) : Type 0 where
  pub each : (k : ℕ) → k < length entries → IsInterval (entry_at entries k).at

-- the entries are the intervals, each once, in order
pub record AreSortedOf (sides : List Sides) (reaches : List ℤ) (entries : List Entry) : Type 0 where
  pub order : AreInOrder entries
  pub number : (k : ℕ) → k < length entries → (entry_at entries k).number < length sides
  pub each : (k : ℕ) → k < length entries → entry_at entries k ≡ entry_of (sides_at sides reaches (entry_at entries k).number) reaches (entry_at entries k).number
  pub every : (i : ℕ) → i < length sides → (k : ℕ) × (k < length entries) × (entry_at entries k ≡ entry_of (sides_at sides reaches i) reaches i)
  pub different : (k m : ℕ) → k < m → m < length entries → (entry_at entries k).number ≢ (entry_at entries m).number
