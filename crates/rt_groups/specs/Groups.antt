-- Groups of items that pairs join, and the numbers of groups. Items go by their numbers, from 0.
use Rattle.std.specs.Prelude.{◌≡◌, ℕ, ◌<◌, ◌↔◌, List, length, slice_index, Contains}
use Rattle.rt_links.specs.Links.{AreLinked}
use Rattle.rt_links.specs.Numbers.{AreNumbered}

-- both of the pair are among so many items
pub record IsOfItems (count : ℕ) (pair : ℕ × ℕ) : Type 0 where
  pub first : pair.0 < count
  pub second : pair.1 < count

-- the two items are a pair of the list
abbrev pub IsPair : List (ℕ × ℕ) → ℕ → ℕ → Type 0
IsPair pairs i j = Contains pairs (i, j)

-- a walk over pairs of the list, each gone either way, leads from the one item to the other
abbrev pub AreLinkedBy : List (ℕ × ℕ) → ℕ → ℕ → Type 0
AreLinkedBy pairs i j = AreLinked (IsPair pairs) i j

-- each of so many items has an item as its entry, and two items have the same entry exactly where the pairs link them
pub record AreGroups (count : ℕ) (pairs : List (ℕ × ℕ)) (groups : List ℕ) : Type 0 where
  pub counted : length groups ≡ count
  pub below : (i : ℕ) → i < count → slice_index groups i < count
  pub same : (i j : ℕ) → i < count → j < count → (slice_index groups i ≡ slice_index groups j) ↔ AreLinkedBy pairs i j

-- items number a and b have the same entry
abbrev pub AreAlike : List ℕ → ℕ → ℕ → Type 0
AreAlike groups a b = slice_index groups a ≡ slice_index groups b

-- the numbers are those of the groups that the entries stand for, one for each item in order: 0, 1, 2, .. as each group appears first
pub record AreNumberedBy (groups numbers : List ℕ) : Type 0 where
  pub counted : length numbers ≡ length groups
  pub fresh : ℕ → ℕ
  pub numbered : AreNumbered (length groups) (AreAlike groups) fresh (λ a. slice_index numbers a)
