-- Items with a parent each, by which groups are told. `parents` has the parent of each item, in order.
use Rattle.std.specs.Prelude.{◌≡◌, ℕ, ◌<◌, ◌≤◌, ◌⊎◌, ◌↔◌, List, length, slice_index}
use Rattle.rt_links.specs.Links.{AreLinked}
use Rattle.rt_groups.specs.Groups.{AreLinkedBy}

-- item j is the parent of item i
pub record IsParent (parents : List ℕ) (i j : ℕ) : Type 0 where
  pub there : i < length parents
  pub parent : slice_index parents i ≡ j

-- the two items are kin: parents, and items whose parent one is, lead from the one to the other
abbrev pub AreKin : List ℕ → ℕ → ℕ → Type 0
AreKin parents i j = AreLinked (IsParent parents) i j

-- the parent of each item is the item itself or one before it
pub record PointDown (parents : List ℕ) : Type 0 where
  pub down : (i : ℕ) → i < length parents → slice_index parents i ≤ i

-- each of so many items is its own parent
pub record AreSingle (count : ℕ) (parents : List ℕ) : Type 0 where
  pub counted : length parents ≡ count
  pub own : (i : ℕ) → i < count → slice_index parents i ≡ i

-- items are kin exactly where the pairs link them
pub record AreParentsOf (pairs : List (ℕ × ℕ)) (parents : List ℕ) : Type 0 where
  pub same : (i j : ℕ) → AreKin parents i j ↔ AreLinkedBy pairs i j

-- by other parents the same items are kin, and each item that was its own parent still is
pub record AreAsBefore (before after : List ℕ) : Type 0 where
  pub counted : length after ≡ length before
  pub down : PointDown after
  pub same : (i j : ℕ) → AreKin before i j ↔ AreKin after i j
  pub own : (i : ℕ) → i < length before → slice_index before i ≡ i → slice_index after i ≡ i

-- item i is kin to an item that is its own parent
pub record IsRootOf (parents : List ℕ) (i root : ℕ) : Type 0 where
  pub there : root < length parents
  pub own : slice_index parents root ≡ root
  pub kin : AreKin parents i root

-- a step to a parent, or from item a to item b
abbrev pub IsStep : List ℕ → ℕ → ℕ → ℕ → ℕ → Type 0
IsStep parents a b i j = IsParent parents i j ⊎ ((i ≡ a) × (j ≡ b))

-- items a and b are joined: kin now are those that were before and those that the step from a to b makes so, and no others
pub record AreJoined (a b : ℕ) (before after : List ℕ) : Type 0 where
  pub counted : length after ≡ length before
  pub down : PointDown after
  pub kept : (i j : ℕ) → AreKin before i j → AreKin after i j
  pub joined : AreKin after a b
  pub no_other : (i j : ℕ) → AreKin after i j → AreLinked (IsStep before a b) i j

-- each of the first n items has a parent that is its own parent
pub record AreFlat (n : ℕ) (parents : List ℕ) : Type 0 where
  pub flat : (i : ℕ) → i < n → slice_index parents (slice_index parents i) ≡ slice_index parents i
