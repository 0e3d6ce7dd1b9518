-- The strips so far: as many of them as are kept, and how many there are.
use Rattle.std.specs.Prelude.{◌≡◌, ℕ, ◌-◌, ◌^◌, ℤ, List, ◌++◌, ◌∷◌, [], length, map, min, take}
use Rattle.rt_cells.specs.Rectangles.{Rectangle}
use Rattle.rt_strips.specs.declared.tally.Tally.{Tally}
use Rattle.rt_strips.specs.Placed.{Placed, placed}
use Rattle.rt_strips.specs.StripsOf.{AreStripsOf}
use Rattle.rt_strips.specs.OneMask.{AreAllStrips}

-- a rectangle of mask m
abbrev pub at_mask : ℕ → Rectangle → Placed
at_mask m r = record { mask = m; area = r }

-- of all strips so far the first ones are kept, at most so many, and all are counted; a count past its type stands at its end
pub record IsTallyOf (most : ℕ) (all : List Placed) (tally : Tally) : Type 0 where
  pub kept : map placed tally.list.items ≡ take most all
  pub counted : tally.count ≡ min (length all) (2 ^ 64 - 1)

-- the strips of some more cells, all of one mask, are added
pub record AddsStrips (cells : ℤ → ℤ → Type 0) (mask most : ℕ) (before after : Tally) : Type 0 where
  pub all : List Rectangle
  pub all_strips : AreAllStrips cells all
  pub added : (earlier : List Placed) → IsTallyOf most earlier before → IsTallyOf most (earlier ++ map (at_mask mask) all) after

-- one more strip is added
pub record AddsOne (strip : Placed) (most : ℕ) (before after : Tally) : Type 0 where
  pub added : (earlier : List Placed) → IsTallyOf most earlier before → IsTallyOf most (earlier ++ strip ∷ []) after

-- the strips of so many masks
pub record AreTallied (cells : ℕ → ℤ → ℤ → Type 0) (masks most : ℕ) (tally : Tally) : Type 0 where
  pub all : List Placed
  pub strips_are : AreStripsOf cells masks all
  pub tally_is : IsTallyOf most all tally
