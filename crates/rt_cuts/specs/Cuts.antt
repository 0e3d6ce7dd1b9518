-- The strips of a cut, what encloses them, and which lower mask they lie in: how a source and its drawing have to agree on it.
use Rattle.std.specs.Prelude.{◌≡◌, ℕ, ℤ, pos, ◌+ℤ◌, ◌-ℤ◌, ◌≤ℤ◌, ◌⊎◌}
use Rattle.rt_cells.specs.Line.{Within}
use Rattle.rt_cells.specs.Rectangles.{Rectangle, Holds}
use Rattle.rt_rules.specs.Cuts.{KeepsEnclosed, KeepsApart}
use Rattle.rt_rules.specs.Pieces.{LiesIn}
use Rattle.rt_family.specs.Strips.{CoveredBy, StandsOn, IsHost}
use Rattle.rt_family.specs.Carried.{IsKeptClear}

-- no strip stands on another of its columns: such two would be one strip
abbrev pub AreUnstacked : (member : ℕ → Type 0) (box : ℕ → Rectangle) → Type 0
AreUnstacked member box = (i j : ℕ) → StandsOn member box i j → (box i).left ≡ (box j).left → (box i).right ≡ (box j).right → ⊥

-- strip i of a mask lies in other cells
pub record StripLiesIn (member : ℕ → Type 0) (box : ℕ → Rectangle) (others : ℤ → ℤ → Type 0) (i : ℕ) : Type 0 where
  pub strip : member i
  pub lies : (x y : ℤ) → Holds (box i) x y → others x y

-- the rectangle with so many more columns and rows on each side
abbrev pub grown : ℤ → Rectangle → Rectangle
grown number r = record { left = r.left -ℤ number; right = r.right +ℤ number; bottom = r.bottom -ℤ number; top = r.top +ℤ number }

-- the hosts of a strip are the strips of another mask that share a cell with it, once it is grown by `near`, in the source. Strips of the
-- first mask are drawn the number inside of their hosts: right of the left side of each and left of the right side of each, above the
-- bottom of the lowest one and below the top of the highest one
module _ (first host : ℕ → Type 0) (source drawn : ℕ → Rectangle) where
  pub record IsKeptInside (near number : ℤ) : Type 0 where
    pub left : (i h : ℕ) → first i → IsHost host source (grown near (source i)) h → ((drawn h).left +ℤ number) ≤ℤ (drawn i).left
    pub right : (i h : ℕ) → first i → IsHost host source (grown near (source i)) h → ((drawn i).right +ℤ number) ≤ℤ (drawn h).right
    pub bottom : (i h : ℕ) → first i → IsHost host source (grown near (source i)) h
        → Within (source h).bottom (source h).top ((source i).bottom -ℤ near) → ((drawn h).bottom +ℤ number) ≤ℤ (drawn i).bottom
    pub top : (i h : ℕ) → first i → IsHost host source (grown near (source i)) h
        → ((source i).top +ℤ near) ≤ℤ (source h).top → ((drawn i).top +ℤ number) ≤ℤ (drawn h).top

-- a cut, one of its lower masks, and those strips of the cut that lie in other lower masks. What lies in the lower mask in the source is
-- drawn the number within it, and the other strips are drawn so far from it that they can't lie in it
module _ (cut lower other : ℕ → Type 0) (source drawn : ℕ → Rectangle) where
  pub record KeepsLowerMask (near number reach clear : ℤ) : Type 0 where
    pub some_near : pos 0 ≤ℤ near
    pub some_number : pos 0 ≤ℤ number
    pub some_reach : pos 1 ≤ℤ reach
    pub some_clear : pos 1 ≤ℤ clear
    -- each strip of the cut lies in this lower mask, or is one of the others
    pub one_or_other : (i : ℕ) → cut i → StripLiesIn cut source (CoveredBy lower source) i ⊎ other i
    pub others : (i : ℕ) → other i → cut i
    -- the source keeps its enclosure and its distance
    pub encloses : KeepsEnclosed near (LiesIn (CoveredBy cut source) (CoveredBy lower source)) (CoveredBy lower source)
    pub apart : KeepsApart reach (CoveredBy other source) (CoveredBy lower source)
    -- the drawing keeps the one inside and the others clear
    pub inside : IsKeptInside (StripLiesIn cut source (CoveredBy lower source)) lower source drawn near number
    pub kept_clear : IsKeptClear other lower source drawn reach clear
