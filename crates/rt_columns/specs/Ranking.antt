-- Ranks of sides. What a drawing shows rests on the order of its sides alone, so it is found by their ranks, which a rectangle can hold.
use Rattle.std.specs.Prelude.{◌≡◌, ℕ, ◌+◌, ◌<◌, ◌≤◌, ℤ, pos, ◌≤ℤ◌, ◌<ℤ◌, ◌↔◌, List, length, Contains}
use Rattle.rt_rows.specs.declared.name.Name.{Name}
use Rattle.rt_strips.specs.Placed.{Placed}
use Rattle.rt_columns.specs.Columns.{IsShownSomewhere}
use Rattle.rt_columns.specs.Sides.{side_of}

-- the numbers rise
pub record AreRising (sorted : List ℤ) : Type 0 where
  pub rises : (i j : ℕ) → i ≤ j → j < length sorted → side_of sorted i ≤ℤ side_of sorted j

-- the rank of a number among others that rise: how many of them are less
pub record IsRankIn (sorted : List ℤ) (number : ℤ) (rank : ℕ) : Type 0 where
  pub inside : rank ≤ length sorted
  pub below : (j : ℕ) → j < rank → side_of sorted j <ℤ number
  pub above : (j : ℕ) → rank ≤ j → j < length sorted → number ≤ℤ side_of sorted j

-- the entry is the rank of the number
pub record HasRank (sorted : List ℤ) (number entry : ℤ) : Type 0 where
  pub rank : ℕ
  pub is : entry ≡ pos rank
  pub ranked : IsRankIn sorted number rank

-- the first so many numbers of both lists, and no others, each once
pub record AreSides (count : ℕ) (lefts rights sides : List ℤ) : Type 0 where
  pub long : length sides ≡ count + count
  pub left : (i : ℕ) → i < count → Contains sides (side_of lefts i)
  pub right : (i : ℕ) → i < count → Contains sides (side_of rights i)

-- the same, where they rise
pub record AreRisingSides (count : ℕ) (lefts rights sorted : List ℤ) : Type 0 where
  pub sides : AreSides count lefts rights sorted
  pub rising : AreRising sorted

-- the ranks of the first so many numbers
pub record AreRanksOf (sorted : List ℤ) (count : ℕ) (numbers ranks : List ℤ) : Type 0 where
  pub long : length ranks ≡ count
  pub each : (i : ℕ) → i < count → HasRank sorted (side_of numbers i) (side_of ranks i)

-- the name is shown by the columns of one of the first so many masks
pub record IsShownBelow (strips : List Placed) (left right : ℕ → ℤ) (masks : ℕ) (name : Name) : Type 0 where
  pub m : ℕ
  pub below : m < masks
  pub shown : IsShownSomewhere strips left right m name

-- the names are those that the columns of the masks show
pub record ListsMasks (strips : List Placed) (left right : ℕ → ℤ) (masks : ℕ) (names : List Name) : Type 0 where
  pub exact : (name : Name) → Contains names name ↔ IsShownBelow strips left right masks name
