-- Quotients of whole numbers by a number that divides them, as code finds them.
use Rattle.std.proofs.Common.{◌≡◌, true, false, ℕ, zero, suc, ◌*◌, ◌/◌, ◌<◌, ◌≤◌, ℤ, pos, negsuc, ◌-ℤ◌, ◌*ℤ◌, ◌≤ℤ◌, ◌<ℤ◌, List, length, refl, sym, ap, subst, ◌∙◌, inl, inr, FitsSigned, to_z, of_z, subst₂, arith}
use Rattle.std.proofs.Math.Nat.{mul-div_cancel}
use Rattle.std.proofs.Math.ListN.{get_or-eq_default}
use Rattle.std.proofs.lemmas.Bool.{cases_lt}
use Rattle.std.proofs.lemmas.Int.{ints, to_z_pos, to_z-of_z, unsigned_abs-mul, fits_signed_from_abs}
use Rattle.std.specs.Int.RustNames.{unsigned_abs}
use lib.Signed.{lt_z}
use mir.Syntax.{w64, w128}
use Rattle.rt_rows.specs.Known.{IsSmall}
use Rattle.rt_solved.specs.Lines.{Divides}
use Rattle.rt_tableau.specs.Numbers.{number_of, IsPastOver, IsSmallOver, IsWide, AreQuotients}

-- what code reads of a wide number is the number
pub wide_stored : (z : ℤ) → IsWide z → to_z w128 (of_z w128 z) ≡ z
wide_stored z h = to_z-of_z w128 z (fits_signed_from_abs w128 z (omega (arith, h.within)))

below_from : (z : ℤ) → lt_z z (pos 0) ≡ true → z <ℤ pos 0
below_from z e = grind (arith, ints)

from_below : (z : ℤ) → lt_z z (pos 0) ≡ false → pos 0 ≤ℤ z
from_below z e = grind (arith, ints)

pub is_below : (z : ℤ) → IsWide z → lt_z (to_z w128 (of_z w128 z)) (pos 0) ≡ true → z <ℤ pos 0
is_below z h e = below_from z (ap (λ t. lt_z t (pos 0)) (sym (wide_stored z h)) ∙ e)

pub is_not_below : (z : ℤ) → IsWide z → lt_z (to_z w128 (of_z w128 z)) (pos 0) ≡ false → pos 0 ≤ℤ z
is_not_below z h e = from_below z (ap (λ t. lt_z t (pos 0)) (sym (wide_stored z h)) ∙ e)

-- the magnitude of the quotient
size_is : (common : ℕ) (value t : ℤ) → 0 < common → value ≡ pos common *ℤ t → unsigned_abs value / common ≡ unsigned_abs t
size_is common value t h e =
    ap (λ z. unsigned_abs z / common) e ∙ ap (λ n. n / common) (unsigned_abs-mul (pos common) t ∙ exchanged common (unsigned_abs t)) ∙ mul-div_cancel (unsigned_abs t) h
  where
    exchanged : (a b : ℕ) → a * b ≡ b * a
    exchanged a b = omega arith

pub past_over : (common : ℕ) (value : ℤ) (size : ℕ) → 0 < common → Divides (pos common) value → size ≡ unsigned_abs value → 1000000000000000000 < size / common → IsPastOver common value
past_over common value size h (t, e) f past = record { quotient = t; is = e; past = subst (λ n. 1000000000000000000 < n) (ap (λ n. n / common) f ∙ size_is common value t h e) past }

small_from : (t : ℤ) → unsigned_abs t ≤ 1000000000000000000 → IsSmall t
small_from (pos n) h = record { low = omega (arith, ints); high = omega (arith, ints, h) }
small_from (negsuc n) h = record { low = omega (arith, ints, h); high = omega (arith, ints) }

not_below : (common : ℕ) (value t : ℤ) → pos 0 ≤ℤ value → 0 < common → value ≡ pos common *ℤ t → pos (unsigned_abs t) ≡ t
not_below common value (pos n) h g e = refl
not_below (suc common) value (negsuc n) h g e = absurd (omega (arith, ints, h, e))
not_below zero value (negsuc n) h g e = absurd (omega (arith, g))

below : (common : ℕ) (value t : ℤ) → value <ℤ pos 0 → value ≡ pos common *ℤ t → pos 0 -ℤ pos (unsigned_abs t) ≡ t
below common value (pos n) h e = absurd (omega (arith, ints, h, e))
below common value (negsuc n) h e = omega (arith, ints)

negative_fits : (m : ℕ) → m ≤ 1000000000000000000 → FitsSigned w64 (pos 0 -ℤ pos m)
negative_fits m h = fits_signed_from_abs w64 (pos 0 -ℤ pos m) (omega (arith, ints, h))

pub quotient_not_negative : (common : ℕ) (value : ℤ) (size : ℕ) → 0 < common → Divides (pos common) value → size ≡ unsigned_abs value → size / common ≤ 1000000000000000000
    → pos 0 ≤ℤ value → IsSmallOver common value (to_z w64 (size / common))
quotient_not_negative common value size h (t, e) f small g =
    let size' : size / common ≡ unsigned_abs t = ap (λ n. n / common) f ∙ size_is common value t h e in
    let small' : unsigned_abs t ≤ 1000000000000000000 = subst (λ n. n ≤ 1000000000000000000) size' small in
    let stored : to_z w64 (size / common) ≡ t = to_z_pos w64 (size / common) (omega (arith, small)) ∙ ap pos size' ∙ not_below common value t g h e in
    subst (IsSmallOver common value) (sym stored) (record { is = e; small = small_from t small' })

pub quotient_negative : (common : ℕ) (value : ℤ) (size : ℕ) → 0 < common → Divides (pos common) value → size ≡ unsigned_abs value → size / common ≤ 1000000000000000000
    → value <ℤ pos 0 → IsSmallOver common value (to_z w64 (of_z w64 (pos 0 -ℤ to_z w64 (size / common))))
quotient_negative common value size h (t, e) f small g =
    let size' : size / common ≡ unsigned_abs t = ap (λ n. n / common) f ∙ size_is common value t h e in
    let small' : unsigned_abs t ≤ 1000000000000000000 = subst (λ n. n ≤ 1000000000000000000) size' small in
    let inner : to_z w64 (size / common) ≡ pos (unsigned_abs t) = to_z_pos w64 (size / common) (omega (arith, small)) ∙ ap pos size' in
    let stored : to_z w64 (of_z w64 (pos 0 -ℤ to_z w64 (size / common))) ≡ t =
    ap (λ z. to_z w64 (of_z w64 (pos 0 -ℤ z))) inner ∙ to_z-of_z w64 (pos 0 -ℤ pos (unsigned_abs t)) (negative_fits (unsigned_abs t) small') ∙ below common value t g e in
    subst (IsSmallOver common value) (sym stored) (record { is = e; small = small_from t small' })

-- what the loop keeps: the quotients so far
pub record AreQuotientsSoFar (factor : ℕ) (values line : List ℤ) (i : ℕ) : Type 0 where
  pub one_each : length line ≡ i
  pub each : (s : ℕ) → s < i → IsSmallOver factor (number_of values s) (number_of line s)

-- 0 is small over each factor
pub nothing_over : (factor : ℕ) → IsSmallOver factor (pos 0) (pos 0)
nothing_over factor = record { is = omega (arith, ints); small = record { low = omega (arith, ints); high = omega (arith, ints) } }

pub quotients_at_last : (factor : ℕ) (values line : List ℤ) (i : ℕ) → AreQuotientsSoFar factor values line i → i ≤ length values → length values ≤ i → AreQuotients factor values line
quotients_at_last factor values line i so h g = record { one_each = so.one_each ∙ omega (arith, h, g); each = each_of }
  where
    each_of : (s : ℕ) → IsSmallOver factor (number_of values s) (number_of line s)
    each_of s =
        elim (cases_lt s i) [
          | inl l ↦ so.each s l
          | inr k ↦ subst₂ (IsSmallOver factor) (sym (get_or-eq_default values (pos 0) (omega (arith, g, k)))) (sym (get_or-eq_default line (pos 0) (omega (arith, so.one_each, k)))) (nothing_over factor)
        ]
