-- Intervals of a line that lie near each other.
use Rattle.std.specs.Prelude.{◌≡◌, ℕ, ◌<◌, ℤ, ◌<ℤ◌, ◌↔◌, List, length, Contains, slice_index_or, pos}
use Rattle.rt_cells.specs.Line.{gap_of}
use Rattle.rt_near.specs.declared.near.Sides.{Sides}

-- it has a place
pub record IsInterval (sides : Sides) : Type 0 where
  pub some : sides.low <ℤ sides.high

-- stands for an interval that isn't there
abbrev pub no_sides : Sides
no_sides = record { group = 0; low = pos 0; high = pos 1 }

module _ (sides : List Sides) (reaches : List ℤ) where
  abbrev pub sides_at : ℕ → Sides
  sides_at i = slice_index_or sides i no_sides

  -- interval i stands before interval j in the list, is of its group, and fewer places than the group's reach lie between them
  pub record AreNear (i j : ℕ) : Type 0 where
    pub ordered : i < j
    pub there : j < length sides
    pub one_group : (sides_at i).group ≡ (sides_at j).group
    pub group : (sides_at i).group < length reaches
    pub near : gap_of (sides_at i).low (sides_at i).high (sides_at j).low (sides_at j).high <ℤ slice_index_or reaches (sides_at i).group (pos 0)

  -- the pairs are those of all that are near
  pub record ListsNearPairs (pairs : List (ℕ × ℕ)) : Type 0 where
    pub exact : (i j : ℕ) → Contains pairs (i, j) ↔ AreNear i j
