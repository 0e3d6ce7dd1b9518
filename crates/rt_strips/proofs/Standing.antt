-- When one strip stands on another, by their ends.
use Rattle.std.proofs.Common.{◌≡◌, ◌≢◌, ℕ, ◌<◌, ℤ, ◌≤ℤ◌, ◌<ℤ◌, Bool, true, false, List, length, map, get_or, sym, subst₂, arith}
use Rattle.std.proofs.lemmas.Int.{ints, clamps}
use Rattle.std.specs.Bool.{MatchBool}
use Rattle.std.specs.Int.{int_max, int_min}
use Rattle.rt_strips.specs.declared.listing.Strip.{Strip}
use Rattle.rt_strips.specs.Placed.{Placed, placed, strip_at}
use Rattle.rt_strips.specs.Standing.{IsUnder, StandsOn, IsStrip}
use Rattle.rt_strips.proofs.Placed.{strip_there, strip_is}

overlap : (l r l' r' : ℤ) → l <ℤ r → l' <ℤ r' → l <ℤ r' → l' <ℤ r → int_max l l' <ℤ int_min r r'
overlap l r l' r' a b h g = omega (arith, ints, clamps)

not_beyond : (l r l' r' : ℤ) → int_max l l' <ℤ int_min r r' → r' ≤ℤ l → ⊥
not_beyond l r l' r' h g = omega (arith, ints, clamps)

not_before : (l r l' r' : ℤ) → int_max l l' <ℤ int_min r r' → r ≤ℤ l' → ⊥
not_before l r l' r' h g = omega (arith, ints, clamps)

-- strips that meet have a common column
pub under : (a b : Strip) → a.mask ≡ b.mask → a.at.y2 ≡ b.at.y1 → a.at.x1 <ℤ b.at.x2 → b.at.x1 <ℤ a.at.x2 → IsUnder (placed a) (placed b)
under a b m e h g = record { one_mask = m; adjoin = e; over = overlap a.at.x1 a.at.x2 b.at.x1 b.at.x2 a.at.across b.at.across h g }

pub not_right : (a b : Strip) → b.at.x2 ≤ℤ a.at.x1 → ¬ IsUnder (placed a) (placed b)
not_right a b h u = not_beyond a.at.x1 a.at.x2 b.at.x1 b.at.x2 u.over h

pub not_left : (a b : Strip) → a.at.x2 ≤ℤ b.at.x1 → ¬ IsUnder (placed a) (placed b)
not_left a b h u = not_before a.at.x1 a.at.x2 b.at.x1 b.at.x2 u.over h

pub other_mask : (a b : Strip) → a.mask ≢ b.mask → ¬ IsUnder (placed a) (placed b)
other_mask a b h u = h u.one_mask

pub other_row : (a b : Strip) → a.at.y2 ≢ b.at.y1 → ¬ IsUnder (placed a) (placed b)
other_row a b h u = h u.adjoin

pub ruleset standing = (under, not_right, not_left, other_mask, other_row)

pub stood : (strips : List Placed) (i j : ℕ) (p q : Placed) → IsStrip strips i → IsStrip strips j → strip_at strips i ≡ p → strip_at strips j ≡ q
    → IsUnder p q → StandsOn strips i j
stood strips i j p q h g e f u =
    let v = subst₂ (λ (s t : Placed). IsUnder s t) (sym e) (sym f) u in
    record { strips_of_one_mask = record { first = h; second = g; one_mask = v.one_mask }; adjoin = v.adjoin; over = record { common = v.over } }

pub under_there : (strips : List Placed) (i j : ℕ) (p q : Placed) → strip_at strips i ≡ p → strip_at strips j ≡ q → StandsOn strips i j → IsUnder p q
under_there strips i j p q e f s =
    subst₂ (λ (s t : Placed). IsUnder s t) e f (record { one_mask = s.strips_of_one_mask.one_mask; adjoin = s.adjoin; over = s.over.common })

-- one strip stands on another where the rectangles do
pub stands_by_number : (strips : List Strip) (i j : ℕ) (a b : Strip) → i < length strips → j < length strips → a ≡ get_or strips i a → b ≡ get_or strips j b
    → (v : Bool) → MatchBool v (IsUnder (placed a) (placed b)) (¬ IsUnder (placed a) (placed b))
    → MatchBool v (StandsOn (map placed strips) i j) (¬ StandsOn (map placed strips) i j)
stands_by_number strips i j a b h g e f true u =
    stood (map placed strips) i j (placed a) (placed b) (strip_there strips i h) (strip_there strips j g) (strip_is strips i a h e) (strip_is strips j b g f) u
stands_by_number strips i j a b h g e f false none = λ s.
    none (under_there (map placed strips) i j (placed a) (placed b) (strip_is strips i a h e) (strip_is strips j b g f) s)
