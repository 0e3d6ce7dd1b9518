-- Lemmas on places of a line: walks, and the place of one interval that is nearest to another.
use Rattle.std.proofs.Common.{◌≡◌, ℕ, zero, suc, ◌+◌, ◌-◌, ℤ, pos, ◌+ℤ◌, ◌-ℤ◌, ◌≤ℤ◌, ◌<ℤ◌, refl, subst, arith}
use Rattle.std.proofs.lemmas.Int.{ints, clamps, by_lt_z}
use Rattle.std.specs.Int.{int_max, int_min}
use borrow.Author.Differences.{up, down}
use mathlib.Core.Logic.{inl, inr}
use Rattle.rt_cells.specs.Line.{Within, IsRun, between, gap_of, nearest_place}
use Rattle.rt_cells.specs.Cells.{Adjacent}

-- how far one place lies after another
pub distance : (x u : ℤ) → x ≤ℤ u → (n : ℕ) × (u ≡ x +ℤ pos n)
distance x u h = ((up u + down x) - (up x + down u), omega (arith, ints))

-- a place between the ends lies in the interval
pub within : (low high z : ℤ) → low ≤ℤ z → z <ℤ high → Within low high z
within low high z h k = record { from = h; to = k }

-- the first place of an interval lies in it
pub first_place : (low high : ℤ) → low <ℤ high → Within low high low
first_place low high h = within low high low (omega (arith, ints)) h

-- the last place of an interval lies in it
pub last_place : (low high : ℤ) → low <ℤ high → Within low high (high -ℤ pos 1)
last_place low high h = within low high (high -ℤ pos 1) (omega (arith, ints)) (omega (arith, ints))

-- the place before an interval doesn't lie in it
pub not_before : (low high : ℤ) → Within low high (low -ℤ pos 1) → ⊥
not_before low high h = omega (arith, ints)

-- the place after an interval doesn't lie in it
pub not_after : (low high : ℤ) → Within low high high → ⊥
not_after low high h = omega (arith, ints)

-- a place is one after the one before it
pub one_before : (z : ℤ) → z ≡ (z -ℤ pos 1) +ℤ pos 1
one_before z = omega (arith, ints)

-- what is below is at most
pub at_most : (p q : ℤ) → p <ℤ q → p ≤ℤ q
at_most p q h = omega (arith, ints)

-- what lies one or more after a number lies above it
pub past : (low by high : ℤ) → pos 1 ≤ℤ by → (low +ℤ by) ≤ℤ high → low <ℤ high
past low by high h k = omega (arith, ints, h, k)

pub past_one : (low high : ℤ) → (low +ℤ pos 1) ≤ℤ high → low <ℤ high
past_one low high h = omega (arith, ints, h)

-- two numbers that are each at most the other are equal
pub antisymmetric : (a b : ℤ) → a ≤ℤ b → b ≤ℤ a → a ≡ b
antisymmetric a b h k = omega (arith, ints)

-- the first place that two intervals have in common lies in both
pub common_first : (low high low' high' : ℤ) → int_max low low' <ℤ int_min high high' → Within low high (int_max low low')
common_first low high low' high' h = within _ _ _ (omega (arith, ints, clamps)) (omega (arith, ints, clamps))

pub common_second : (low high low' high' : ℤ) → int_max low low' <ℤ int_min high high' → Within low' high' (int_max low low')
common_second low high low' high' h = within _ _ _ (omega (arith, ints, clamps)) (omega (arith, ints, clamps))

upwards : (P : ℤ → Type 0) (low high : ℤ) → ((z t : ℤ) → Within low high z → Within low high t → Adjacent z t → P z → P t)
    → (n : ℕ) (x u : ℤ) → u ≡ x +ℤ pos n → low ≤ℤ x → u <ℤ high → P x → P u
upwards P low high step zero x u e h k p = let s : x ≡ u = omega (arith, ints) in subst P s p
upwards P low high step (suc n) x u e h k p =
    upwards P low high step n (x +ℤ pos 1) u (omega (arith, ints)) (omega (arith, ints)) k
    (step x (x +ℤ pos 1) (within _ _ _ h (omega (arith, ints))) (within _ _ _ (omega (arith, ints)) (omega (arith, ints))) (inl refl) p)

downwards : (P : ℤ → Type 0) (low high : ℤ) → ((z t : ℤ) → Within low high z → Within low high t → Adjacent z t → P z → P t)
    → (n : ℕ) (x u : ℤ) → x ≡ u +ℤ pos n → low ≤ℤ u → x <ℤ high → P x → P u
downwards P low high step zero x u e h k p = let s : x ≡ u = omega (arith, ints) in subst P s p
downwards P low high step (suc n) x u e h k p =
    downwards P low high step n (x -ℤ pos 1) u (omega (arith, ints)) h (omega (arith, ints))
    (step x (x -ℤ pos 1) (within _ _ _ (omega (arith, ints)) k) (within _ _ _ (omega (arith, ints)) (omega (arith, ints))) (inr (omega (arith, ints))) p)

-- what passes between neighbours of an interval passes between any two of its places
pub passed_along : (P : ℤ → Type 0) (low high : ℤ) → ((z t : ℤ) → Within low high z → Within low high t → Adjacent z t → P z → P t)
    → (x u : ℤ) → Within low high x → Within low high u → P x → P u
passed_along P low high step x u h k p =
    by_lt_z u x
    (λ l. let d = distance u x (omega (arith, ints)) in downwards P low high step d.0 x u d.1 k.from h.to p)
    (λ l. let d = distance x u l in upwards P low high step d.0 x u d.1 h.from k.to p)

-- the nearest place of an interval is one of its places
pub nearest_within : (low high other : ℤ) → low <ℤ high → Within low high (nearest_place low high other)
nearest_within low high other h = within _ _ _ (omega (arith, ints, clamps)) (omega (arith, ints, clamps))

-- as many places lie between the nearest places of two intervals as between the intervals
pub nearest_between : (low high low' high' : ℤ) → low <ℤ high → low' <ℤ high'
    → gap_of low high low' high' ≡ between (nearest_place low high low') (nearest_place low' high' low)
nearest_between low high low' high' h k = omega (arith, ints, clamps)

-- a gap is as wide from either side
pub gap_back : (low high low' high' reach : ℤ) → gap_of low high low' high' <ℤ reach → gap_of low' high' low high <ℤ reach
gap_back low high low' high' reach h = omega (arith, ints, clamps)

-- runs that have a place in common begin at one place
begin_together : (line : ℤ → Type 0) (a b c d x : ℤ) → IsRun line a b → IsRun line c d → Within a b x → Within c d x → a ≤ℤ c
begin_together line a b c d x r s h k =
    by_lt_z c a
    (λ l. absurd (r.before (s.inside (a -ℤ pos 1) (within _ _ _ (omega (arith, ints)) (omega (arith, ints, h.from, k.to))))))
    (λ l. l)

-- and end at one place
end_together : (line : ℤ → Type 0) (a b c d x : ℤ) → IsRun line a b → IsRun line c d → Within a b x → Within c d x → b ≤ℤ d
end_together line a b c d x r s h k =
    by_lt_z d b
    (λ l. absurd (s.after (r.inside d (within _ _ _ (omega (arith, ints, h.from, k.to)) l))))
    (λ l. l)

-- runs that have a place in common are one
pub one_run : (line : ℤ → Type 0) (a b c d x : ℤ) → IsRun line a b → IsRun line c d → Within a b x → Within c d x → (a ≡ c) × (b ≡ d)
one_run line a b c d x r s h k = (
  antisymmetric a c (begin_together line a b c d x r s h k) (begin_together line c d a b x s r k h),
  antisymmetric b d (end_together line a b c d x r s h k) (end_together line c d a b x s r k h),
)
