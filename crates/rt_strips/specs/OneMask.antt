-- The strips of one set of cells, as rectangles.
use Rattle.std.specs.Prelude.{◌≡◌, ℕ, ◌-◌, ◌^◌, min, ℤ, ◌<ℤ◌, ◌⊎◌, ◌↔◌, List, All, AllPairs, Contains, length, take}
use Rattle.rt_cells.specs.Line.{IsRun, Within}
use Rattle.rt_cells.specs.Cells.{row_of}
use Rattle.rt_cells.specs.Rectangles.{Rectangle, IsNonempty, Holds, Covers}

-- no cell lies in both rectangles
abbrev pub AreDisjoint : Rectangle → Rectangle → Type 0
AreDisjoint a b = (x y : ℤ) → Holds a x y → ¬ Holds b x y

-- each row of the rectangle is a whole run of the cells
abbrev pub HasWholeRuns : (ℤ → ℤ → Type 0) → Rectangle → Type 0
HasWholeRuns cells r = (y : ℤ) → Within r.bottom r.top y → IsRun (row_of cells y) r.left r.right

-- rectangle a comes before rectangle b: by bottom, then by left
abbrev pub IsBefore : Rectangle → Rectangle → Type 0
IsBefore a b = (a.bottom <ℤ b.bottom) ⊎ ((a.bottom ≡ b.bottom) × (a.left <ℤ b.left))

-- the rectangles are the strips of the cells: they cover them once, their rows are whole runs, none stands on another of its
-- columns, and they stand in order of bottom, then left
pub record AreAllStrips (cells : ℤ → ℤ → Type 0) (areas : List Rectangle) : Type 0 where
  pub nonempty : All IsNonempty areas
  pub same_cells : (x y : ℤ) → cells x y ↔ Covers areas x y
  pub once : AllPairs AreDisjoint areas
  pub whole_runs : All (HasWholeRuns cells) areas
  pub unstacked : (a b : Rectangle) → Contains areas a → Contains areas b → (a.top ≡ b.bottom) → (a.left ≡ b.left) → (a.right ≡ b.right) → ⊥
  pub in_order : AllPairs IsBefore areas

-- both lists of rectangles cover the cell
abbrev pub BothCover : List Rectangle → List Rectangle → ℤ → ℤ → Type 0
BothCover first second x y = Covers first x y × Covers second x y

-- the strips that are kept are the first ones of all strips of the cells, at most so many, and the count is of all of them; a count past
-- its type stands at its end
pub record AreFirstStrips (cells : ℤ → ℤ → Type 0) (most : ℕ) (kept : List Rectangle) (count : ℕ) : Type 0 where
  pub all : List Rectangle
  pub all_strips : AreAllStrips cells all
  pub kept_first : kept ≡ take most all
  pub counted : count ≡ min (length all) (2 ^ 64 - 1)

-- the rectangles of both lists cover the same cells
abbrev pub CoverTheSame : List Rectangle → List Rectangle → Type 0
CoverTheSame first second = (x y : ℤ) → Covers first x y ↔ Covers second x y
