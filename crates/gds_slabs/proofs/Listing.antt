-- The columns of a set rise, and the lengths of what the sweep lists.
use Rattle.std.proofs.Common.{Ordering, Less, Equal, Greater, ◌≡◌, ◌+◌, ◌/◌, ℤ, ◌<ℤ◌, cond, List, [], ◌∷◌, length, length-append, refl, true, false}
use Rattle.std.specs.Prelude.{int_lt}
use Rattle.gds_slabs.specs.declared.toggles.Toggle.{Toggle}
use Rattle.gds_slabs.specs.Sweep.{toggled, step, swept, slab}
use Rattle.std.specs.Ordering.{MatchOrdering, int_cmp}
use Rattle.std.specs.Cmp.{int_ranks}
use Rattle.std.specs.List.Sorted.{IsStrictlySortedBy}
use Rattle.std.proofs.lemmas.Map.Keys.{sorted_head, sorted_tail}
use Rattle.std.proofs.lemmas.List.Elements.{All-from_recursion, All-head}
use Rattle.gds_slabs.proofs.Odds.{Beyond, Rising, length-slab}

less_says : (a b : ℤ) (r : Ordering) → MatchOrdering r (a <ℤ b) (a ≡ b) (b <ℤ a) → r ≡ Less → a <ℤ b
less_says a b Less h e = h
less_says a b Equal h e = absurd (cc e)
less_says a b Greater h e = absurd (cc e)

beyond_from_sorted : (a : ℤ) (columns : List ℤ) → IsStrictlySortedBy int_cmp (a ∷ columns) → Beyond a columns
beyond_from_sorted a [] h = tt
beyond_from_sorted a (c ∷ columns) h = (
  less_says a c (int_cmp a c) (int_ranks a c)
      (All-head (λ d. int_cmp a d ≡ Less) c columns (All-from_recursion (λ d. int_cmp a d ≡ Less) (c ∷ columns) (sorted_head int_cmp a (c ∷ columns) h))),
  beyond_from_sorted c columns (sorted_tail int_cmp a (c ∷ columns) h),
)

-- the keys of a set of columns rise
pub rising_from_sorted : (columns : List ℤ) → IsStrictlySortedBy int_cmp columns → Rising columns
rising_from_sorted [] h = tt
rising_from_sorted (c ∷ columns) h = beyond_from_sorted c columns h

-- two columns for each rectangle, if there are rows
pub length_step : (low high : ℤ) (columns : List ℤ) → length (step low high columns) ≡ cond (int_lt low high) (length columns / 2) 0
length_step low high columns =
    elim (int_lt low high) as (λ b. length (cond b (slab low high columns) []) ≡ cond b (length columns / 2) 0)
    [ true ↦ length-slab low high columns | false ↦ refl ]

-- the rectangles up to the next toggle, and the others
pub length_swept : (low : ℤ) (columns : List ℤ) (t : Toggle) (rest : List Toggle)
    → length (swept low columns (t ∷ rest)) ≡ length (step low t.y columns) + length (swept t.y (toggled t.x columns) rest)
length_swept low columns t rest = length-append (step low t.y columns) (swept t.y (toggled t.x columns) rest)
