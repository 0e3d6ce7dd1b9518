-- What a sweep keeps: bars in order of their rows, which of them have begun, and which go on.
use Rattle.std.specs.Prelude.{◌≡◌, ℕ, ◌<◌, ◌≤◌, ℤ, ◌≤ℤ◌, ◌<ℤ◌, ◌⊎◌, List, [], ◌∷◌, ◌++◌, length, All, AllPairs, Contains, slice_index_or}
use Rattle.rt_sweep.specs.declared.bar.Bar.{Bar}

-- bar a comes before bar b upwards, or with it: by bottom, then by left
pub record ComesUp (a b : Bar) : Type 0 where
  pub bottoms : a.at.y1 ≤ℤ b.at.y1
  pub lefts : b.at.y1 ≤ℤ a.at.y1 → a.at.x1 ≤ℤ b.at.x1

-- the bars stand in order of bottom, then left
abbrev pub AreUpwards : List Bar → Type 0
AreUpwards bars = AllPairs ComesUp bars

-- the bars stand in order of their left ends
abbrev pub AreAcross : List Bar → Type 0
AreAcross bars = AllPairs (λ a b. a.at.x1 ≤ℤ b.at.x1) bars

-- the bar is one of the bars and begins below the height
pub record HasBegun (bars : List Bar) (height : ℤ) (bar : Bar) : Type 0 where
  pub listed : Contains bars bar
  pub below : bar.at.y1 <ℤ height

-- a sweep's bars in order of bottom; those before the next place, and no others, begin below the height; those of them that go on are among
-- the active ones
pub record IsSwept (bars : List Bar) (next : ℕ) (height highest : ℤ) (active : List Bar) : Type 0 where
  pub upwards : AreUpwards bars
  pub inside : next ≤ length bars
  pub begun : (k : ℕ) (d : Bar) → k < next → (slice_index_or bars k d).at.y1 <ℤ height
  pub to_come : (k : ℕ) (d : Bar) → next ≤ k → k < length bars → height ≤ℤ (slice_index_or bars k d).at.y1
  pub ends : All (λ bar. bar.at.y2 ≤ℤ highest) bars
  pub active_began : All (HasBegun bars height) active
  pub each : (bar : Bar) → HasBegun bars height bar → height <ℤ bar.at.y2 → Contains active bar
  pub across : AreAcross active

-- the bars from a place on up to another begin in the row or below it, and the one at that other place above it
pub record AreFirstRows (bars : List Bar) (from : ℕ) (row : ℤ) (end : ℕ) : Type 0 where
  pub onward : from ≤ end
  pub inside : end ≤ length bars
  pub first : (k : ℕ) (d : Bar) → from ≤ k → k < end → (slice_index_or bars k d).at.y1 ≤ℤ row
  pub above : (d : Bar) → end < length bars → row <ℤ (slice_index_or bars end d).at.y1

-- the greatest height that is at most another and at which no bar has ended
pub record IsLeastTop (bars : List Bar) (height least : ℤ) : Type 0 where
  pub at_most : least ≤ℤ height
  pub tops : All (λ bar. least ≤ℤ bar.at.y2) bars
  pub greatest : (low : ℤ) → low <ℤ height → All (λ bar. low <ℤ bar.at.y2) bars → low <ℤ least

-- a bar of the active ones goes on at the height
abbrev pub GoOn : List Bar → ℤ → Type 0
GoOn active height = (bar : Bar) × Contains active bar × (height <ℤ bar.at.y2)

-- all active bars have ended at the height
abbrev pub HaveEnded : List Bar → ℤ → Type 0
HaveEnded active height = All (λ bar. bar.at.y2 ≤ℤ height) active

-- the lowest row from the height on in which a bar is: that of the height, where an active bar goes on, or else the one where the next bar begins
pub record IsNextBottom (bars : List Bar) (next : ℕ) (active : List Bar) (height bottom : ℤ) : Type 0 where
  pub either : (GoOn active height × (bottom ≡ height))
      ⊎ (HaveEnded active height × (next < length bars) × ((d : Bar) → bottom ≡ (slice_index_or bars next d).at.y1))

-- no active bar goes on, and none is to come
pub record NoneIsLeft (bars : List Bar) (next : ℕ) (active : List Bar) (height : ℤ) : Type 0 where
  pub ended : HaveEnded active height
  pub begun : length bars ≤ next

-- the bars of both lists that end above the row, in order of their left ends
pub record IsMerged (going beginning : List Bar) (row : ℤ) (merged : List Bar) : Type 0 where
  pub each : All (λ bar. (Contains going bar ⊎ Contains beginning bar) × (row <ℤ bar.at.y2)) merged
  pub going_kept : (bar : Bar) → Contains going bar → row <ℤ bar.at.y2 → Contains merged bar
  pub beginning_kept : (bar : Bar) → Contains beginning bar → row <ℤ bar.at.y2 → Contains merged bar
  pub across : AreAcross merged

-- the bar at place i of the first list is to the left of what is left of the second one, from place j on
pub record IsNextAcross (first : List Bar) (i : ℕ) (second : List Bar) (j : ℕ) : Type 0 where
  pub there : i < length first
  pub left : (d : Bar) → j < length second → (slice_index_or first i d).at.x1 ≤ℤ (slice_index_or second j d).at.x1

-- the bar is appended where it ends above the row
abbrev pub IsKept : ℤ → Bar → List Bar → List Bar → Type 0
IsKept row bar before after = ((row <ℤ bar.at.y2) × (after ≡ before ++ bar ∷ [])) ⊎ ((bar.at.y2 ≤ℤ row) × (after ≡ before))
