-- Entries that are close, as a sweep finds them.
use Rattle.std.specs.Prelude.{◌≡◌, ℕ, ◌<◌, ◌-ℤ◌, ◌<ℤ◌, ◌↔◌, ◌⊎◌, List, length, Contains, nat_lt, cond, pos}
use Rattle.rt_cells.specs.Line.{gap_of}
use Rattle.rt_near.specs.declared.entry.Entry.{Entry}
use Rattle.rt_near.specs.Entries.{entry_at}

-- the numbers of two entries, the smaller one first
abbrev pub numbers_of : Entry → Entry → ℕ × ℕ
numbers_of a b = cond (nat_lt a.number b.number) (a.number, b.number) (b.number, a.number)

-- the first one's group has a reach above 0, and the second begins before that many places lie between them
pub record ComesWithin (a b : Entry) : Type 0 where
  pub some : pos 0 <ℤ a.reach
  pub within : (b.at.low -ℤ a.at.high) <ℤ a.reach

-- the entries are of one group, and fewer places than its reach lie between them
pub record IsClose (a b : Entry) : Type 0 where
  pub one_group : a.at.group ≡ b.at.group
  pub near : gap_of a.at.low a.at.high b.at.low b.at.high <ℤ a.reach

-- the pair is that of the entry at a place and of a later one before an end, which is close to it
pub record IsPairFrom (entries : List Entry) (place end : ℕ) (pair : ℕ × ℕ) : Type 0 where
  pub other : ℕ
  pub later : place < other
  pub before : other < end
  pub close : IsClose (entry_at entries place) (entry_at entries other)
  pub numbers : pair ≡ numbers_of (entry_at entries place) (entry_at entries other)

-- those pairs are added
pub record AreAdded (entries : List Entry) (place end : ℕ) (before after : List (ℕ × ℕ)) : Type 0 where
  pub exact : (pair : ℕ × ℕ) → Contains after pair ↔ (Contains before pair ⊎ IsPairFrom entries place end pair)

-- the pairs are those of entries before a place with later ones
pub record AreClosePairsBefore (entries : List Entry) (end : ℕ) (pairs : List (ℕ × ℕ)) : Type 0 where
  pub exact : (pair : ℕ × ℕ) → Contains pairs pair ↔ ((place : ℕ) × (place < end) × IsPairFrom entries place (length entries) pair)

-- the pairs are those of all entries that are close
abbrev pub AreClosePairs : List Entry → List (ℕ × ℕ) → Type 0
AreClosePairs entries = AreClosePairsBefore entries (length entries)
