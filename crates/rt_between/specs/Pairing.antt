-- Intervals of two groups that lie near each other, and the pairs of strips among which hosts are found.
use Rattle.std.specs.Prelude.{◌≡◌, ◌≢◌, ℕ, ◌<◌, ℤ, ◌<ℤ◌, ◌⊎◌, Bool, ◌||◌, ◌==◌, cond, List, length, All, Contains, slice_index_or}
use Rattle.rt_cells.specs.Line.{gap_of}
use Rattle.rt_near.specs.declared.near.Sides.{Sides}
use Rattle.rt_near.specs.Near.{no_sides}
use Rattle.rt_strips.specs.declared.listing.Strip.{Strip}
use Rattle.rt_tech.specs.declared.table.Enclose.{Enclose}
use Rattle.rt_view.specs.declared.job.Job.{Job}
use Rattle.rt_template.specs.Between.{IsHostUnder}

-- the rows of a strip, grouped by its mask
abbrev pub side_of : Strip → Sides
side_of strip = record { group = strip.mask; low = strip.at.y1; high = strip.at.y2 }

-- the group is one of the two
abbrev pub is_of_two : (first second group : ℕ) → Bool
is_of_two first second group = (group == first) || (group == second)

-- an interval of one of the two groups is put into group 0, and another one into group 1
abbrev pub grouped_side : (first second : ℕ) → Sides → Sides
grouped_side first second side = record { group = cond (is_of_two first second side.group) 0 1; low = side.low; high = side.high }

module _ (sides : List Sides) (first second : ℕ) (reach : ℤ) where
  -- interval i is there, and of one of the two groups
  pub record IsOfEither (i : ℕ) : Type 0 where
    pub there : i < length sides
    pub of_either : ((slice_index_or sides i no_sides).group ≡ first) ⊎ ((slice_index_or sides i no_sides).group ≡ second)

  -- intervals i and j are each of one of the two groups, and fewer places than the reach lie between them
  pub record AreNearOfTwo (i j : ℕ) : Type 0 where
    pub one : IsOfEither i
    pub other : IsOfEither j
    pub near : gap_of (slice_index_or sides i no_sides).low (slice_index_or sides i no_sides).high (slice_index_or sides j no_sides).low (slice_index_or sides j no_sides).high <ℤ reach

  -- both numbers are of intervals
  pub record ArePaired (pair : ℕ × ℕ) : Type 0 where
    pub first_there : pair.0 < length sides
    pub second_there : pair.1 < length sides

  -- among the pairs is each two intervals that are near, in one order or the other
  pub record HoldNearOfTwo (pairs : List (ℕ × ℕ)) : Type 0 where
    pub there : All ArePaired pairs
    pub every : (i j : ℕ) → i ≢ j → AreNearOfTwo i j → Contains pairs (i, j) ⊎ Contains pairs (j, i)

-- among the pairs is each strip with each of its hosts under enclosure q, in one order or the other
pub record HoldHosts (job : Job) (q : ℕ) (pairs : List (ℕ × ℕ)) : Type 0 where
  pub every : (i h : ℕ) → IsHostUnder job q i h → Contains pairs (i, h) ⊎ Contains pairs (h, i)

-- the pairs are kept, and each of the first so many numbers is paired with itself
pub record AreEachAdded (count : ℕ) (before after : List (ℕ × ℕ)) : Type 0 where
  pub kept : (pair : ℕ × ℕ) → Contains before pair → Contains after pair
  pub own : (i : ℕ) → i < count → Contains after (i, i)

-- the pairs are kept, and where the enclosure's mask is its cut, each of the first so many numbers is paired with itself
pub record AreOwnAdded (enclose : Enclose) (count : ℕ) (before after : List (ℕ × ℕ)) : Type 0 where
  pub kept : (pair : ℕ × ℕ) → Contains before pair → Contains after pair
  pub own : enclose.cut ≡ enclose.mask → (i : ℕ) → i < count → Contains after (i, i)
