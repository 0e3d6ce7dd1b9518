-- The columns of one slab: which bars of strips have a column in common with those of rectangles. A bar is that of a rectangle where its tag is
-- below a count, and else that of a strip, tagged by its number behind the count.
use Rattle.std.specs.Prelude.{◌≡◌, ℕ, ◌+◌, ◌<◌, ◌≤◌, ◌≤ℤ◌, ◌⊎◌, List, length, Contains, slice_index_or, slice_set, Option, None, Some, IsSomeAnd}
use Rattle.rt_base.specs.Plane.{area}
use Rattle.rt_family.specs.Strips.{ShareColumn}
use Rattle.rt_sweep.specs.declared.bar.Bar.{Bar}
use Rattle.rt_hosts.specs.Hosts.{host_at}

-- the two bars have a common column
abbrev pub AreOver : Bar → Bar → Type 0
AreOver a b = ShareColumn (area a.at) (area b.at)

-- what is held is the bar of a strip, if it is there
pub record IsOfStrip (count : ℕ) (held : Option Bar) : Type 0 where
  pub tagged : (strip : Bar) → held ≡ Some strip → count ≤ strip.tag

-- the bar is held, which is that of a strip and ends no sooner than what was held before; or it isn't, and that is held on
pub record IsFarthest (bar : Bar) (held : Option Bar) (count : ℕ) (held' : Option Bar) : Type 0 where
  pub either : ((count ≤ bar.tag) × (held' ≡ Some bar) × ((strip : Bar) → held ≡ Some strip → strip.at.x2 ≤ℤ bar.at.x2))
      ⊎ ((count ≤ bar.tag → IsSomeAnd held (λ strip. bar.at.x2 ≤ℤ strip.at.x2)) × (held' ≡ held))

-- the bar is held, which is that of a strip; or it isn't one, and what was held before is held on
abbrev pub IsNearest : Bar → Option Bar → ℕ → Option Bar → Type 0
IsNearest bar held count held' = ((count ≤ bar.tag) × (held' ≡ Some bar)) ⊎ ((bar.tag < count) × (held' ≡ held))

-- the bar of a strip is held that has a common column with the bar of a rectangle, and its number is noted for that one
pub record NotesHost (bar : Bar) (held : Option Bar) (before after : List (Option ℕ)) : Type 0 where
  pub strip : Bar
  pub is : held ≡ Some strip
  pub there : bar.tag < length before
  pub over : AreOver strip bar
  pub number : ℕ
  pub numbered : strip.tag ≡ length before + number
  pub after_is : after ≡ slice_set before bar.tag (Some number)

-- none is held that has one, or the bar isn't one of a rectangle, and nothing is noted
pub record NotesNone (bar : Bar) (held : Option Bar) (before after : List (Option ℕ)) : Type 0 where
  pub apart : (strip : Bar) → held ≡ Some strip → bar.tag < length before → ¬ AreOver strip bar
  pub same : after ≡ before

-- the strip that is held is noted for the bar, where the two have a common column
abbrev pub IsNoted : Bar → Option Bar → List (Option ℕ) → List (Option ℕ) → Type 0
IsNoted bar held before after = NotesHost bar held before after ⊎ NotesNone bar held before after

module _ (bars : List Bar) (count : ℕ) where
  -- rectangle t and strip h have bars with a common column
  pub record AreOverAt (t h : ℕ) : Type 0 where
    pub bar : Bar
    pub strip : Bar
    pub bar_listed : Contains bars bar
    pub strip_listed : Contains bars strip
    pub bar_numbered : bar.tag ≡ t
    pub strip_numbered : strip.tag ≡ count + h
    pub over : AreOver strip bar

  -- the bar at place k is one of a rectangle, and the one at place j that of a strip
  pub record AreOfBoth (k j : ℕ) (d : Bar) : Type 0 where
    pub first : k < length bars
    pub second : j < length bars
    pub of_rectangle : (slice_index_or bars k d).tag < count
    pub of_strip : count ≤ (slice_index_or bars j d).tag

  -- of pairs of places those that have no host noted have no common column; what is noted anew has one, and nothing is dropped
  pub record AreLookedAt (pairs : ℕ → ℕ → Type 0) (before after : List (Option ℕ)) : Type 0 where
    pub counted : length after ≡ count
    pub noted : (t h : ℕ) → host_at after t ≡ Some h → (host_at before t ≡ Some h) ⊎ AreOverAt t h
    pub kept : (t : ℕ) → host_at after t ≡ None → host_at before t ≡ None
    pub apart : (k j : ℕ) (d : Bar) → pairs k j → AreOfBoth k j d → host_at after (slice_index_or bars k d).tag ≡ None
        → ¬ AreOver (slice_index_or bars j d) (slice_index_or bars k d)

-- the second place is before the first one
abbrev pub IsEarlier : ℕ → ℕ → Type 0
IsEarlier k j = j < k

-- or behind it
abbrev pub IsLater : ℕ → ℕ → Type 0
IsLater k j = k < j

-- or anywhere
abbrev pub AreAnyTwo : ℕ → ℕ → Type 0
AreAnyTwo k j = Unit {0}
